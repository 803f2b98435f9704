use Rattle.std.proofs.Common.{◌≡◌, ◌∙◌, ap, rules}
use Rattle.sap_wiring.specs.Wiring.{is_fed}
use Rattle.sap_wiring.proofs.Feeding.{feeds_more}
use Rattle.sap_wiring.proofs.wiring.feed.Goals as goal

pub returns : goal.returns
returns c = λ name.
    let e : c.in_ok-key.key.items ≡ c.args.to.now = search rules in
    ap (λ keys. is_fed keys name) c.in_ok-insert.ensures.keys ∙ feeds_more c.args.fed.now.keys c.in_ok-key.key c.args.to.now name e
