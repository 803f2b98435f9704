use Rattle.std.proofs.Common.{sym, ap, ◌∙◌, arith}
use Rattle.sap_meaning.specs.Program as program
use Rattle.sap_tags_terms.specs.Code.{world_in}
use Rattle.sap_tags_variables.proofs.OfEntities.{of_input, picked, passed, two_more}
use Rattle.sap_tags_variables.proofs.registers.add_inputs.Goals as goal
use Rattle.sap_tags_variables.proofs.registers.add_inputs.Goals.{then-is_input+in_ok-add_value+in_ok-add_tag, else-is_input}

pub loop-x-preserved : goal.loop-x-preserved
loop-x-preserved c =
    let s = c.args.setting.now in
    elim c.if-is_input.branch [
      | then-is_input+in_ok-add_value+in_ok-add_tag w ↦
          ap (λ v. v.items) w.inputs-is
          ∙ picked s (program.is_input (world_in s)) (of_input s) c.loop-x.x c.args.inputs.now.items c.loop-x.inputs.items _ (omega arith)
          (sym w.if-is_input.ensures) c.loop-x.invariant (two_more _ _ _ _ _ w.in_ok-add_value.ensures w.in_ok-add_tag.ensures)
      | else-is_input w ↦
          ap (λ v. v.items) w.inputs-is
          ∙ passed s (program.is_input (world_in s)) (of_input s) c.loop-x.x c.args.inputs.now.items c.loop-x.inputs.items (omega arith)
          (sym w.if-is_input.ensures) c.loop-x.invariant
    ]
