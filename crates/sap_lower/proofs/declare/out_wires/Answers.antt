use Rattle.sap_lemmas.proofs.Common.{◌∙◌, ◌++◌, List, map, ap, rules, on_ok_weaker}
use Rattle.sap_ir.specs.declared.guarded.Var.{Var}
use Rattle.sap_share.specs.Sets.{AreSame}
use Rattle.sap_lower.specs.Lowered.{out_wire}
use Rattle.sap_lower.proofs.Listed.{listed_same}
use Rattle.sap_lower.proofs.declare.out_wires.Goals as goal

pub returns : goal.returns
returns c =
    let set = c.in_ok-set.set in
    let same : AreSame set c.args.ports.now = search rules in
    on_ok_weaker c.add_shown.result
    (λ e. e ∙ ap (λ (xs : List Var). c.args.wires.now.items ++ map (out_wire c.args.entries.now) xs) (listed_same set c.args.ports.now c.args.variables.now same))
    c.add_shown.ensures
