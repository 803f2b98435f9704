use Rattle.sap_lemmas.proofs.Common.{◌≡◌, ◌∙◌, ◌++◌, List, ap, rules, on_ok_weaker}
use Rattle.sap_maps.specs.Maps.{Name}
use Rattle.sap_net.specs.IsNetlist.{names_of}
use Rattle.sap_share.specs.Sets.{AreSame}
use Rattle.sap_lower.specs.Lowered.{unported}
use Rattle.sap_lower.proofs.Listed.{unported_same}
use Rattle.sap_lower.proofs.declare.add_wires.Goals as goal

pub returns : goal.returns
returns c =
    let set = c.in_ok-set.set in
    let same : AreSame set c.args.ports.now = search rules in
    let kept : c.reserve.new.self.items ≡ c.args.made.now.items = search rules in
    on_ok_weaker c.add_other_than.result
    (λ e. e ∙ ap (λ (ns : List Name). ns ++ unported set (names_of c.args.wires.now)) kept
    ∙ ap (λ (ns : List Name). c.args.made.now.items ++ ns) (unported_same set c.args.ports.now (names_of c.args.wires.now) same))
    c.add_other_than.ensures
