use Rattle.std.proofs.Common.{◌≡◌, refl, rules}
use Rattle.sap_vread.specs.Build.Firsts.{number_of}
use Rattle.sap_vjudge.proofs.Tabled.{put_entry}
use Rattle.sap_vread.proofs.build.firsts.Firsts.put.Goals as goal

pub returns : goal.returns
unfolding number_of
returns c = λ n.
    let e : c.in_ok-key.key.items ≡ c.args.name.now = search rules in
    put_entry _ (λ a b. refl) c.in_ok-key.key c.args.number n c.args.name.now _ _ e c.in_ok-insert.ensures.entries
