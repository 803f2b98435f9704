use Rattle.sap_lemmas.proofs.Common.{◌∙◌, ◌++◌, List, ap, rules, on_ok_weaker}
use Rattle.sap_maps.specs.Prelude.{Name}
use Rattle.sap_ir.specs.Calcs.{commands_of}
use Rattle.sap_share.specs.Sets.{AreSame}
use Rattle.sap_lower.specs.declared.parts.Part.{Part}
use Rattle.sap_lower.specs.Lowered.{targets}
use Rattle.sap_lower.proofs.Targets.{entries_same}
use Rattle.sap_lower.proofs.first.add_kept.Goals as goal

pub returns : goal.returns
returns c =
    let set = c.in_ok-assigned.assigned in
    let all = targets (commands_of c.args.cmds.now) in
    let same : AreSame set all = search rules in
    on_ok_weaker c.add_registers.result
    (λ e. e ∙ ap (λ (es : List (Name × Part)). c.args.entries.now.items ++ es) (entries_same set all c.args.registers.now same)) c.add_registers.ensures
