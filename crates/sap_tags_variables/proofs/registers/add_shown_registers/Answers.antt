use Rattle.std.proofs.Common.{◌++◌, [], ◌∷◌, sym, ap, ◌∙◌, arith}
use Rattle.sap_meaning.specs.Program as program
use Rattle.sap_tags_terms.specs.Code.{named_in, tag_width, world_in}
use Rattle.sap_tagged.specs.Plain.{tag_var, value_var}
use Rattle.sap_tags_variables.proofs.OfEntities.{of_register, picked, passed, two_more}
use Rattle.sap_tags_variables.proofs.registers.add_shown_registers.Goals as goal
use Rattle.sap_tags_variables.proofs.registers.add_shown_registers.Goals.{then-is_register+in_ok-add_value+in_ok-add_tag, else-is_register}

pub loop-x-preserved : goal.loop-x-preserved
loop-x-preserved c =
    let s = c.args.setting.now in
    elim c.if-is_register.branch [
      | then-is_register+in_ok-add_value+in_ok-add_tag w ↦
          ap (λ v. v.items) w.registers-is
          ∙ picked s (program.is_register (world_in s)) (of_register s) c.loop-x.x c.args.registers.now.items c.loop-x.registers.items
          _ (omega arith) (sym w.if-is_register.ensures) c.loop-x.invariant
          (two_more _ _ _ _ _ (w.in_ok-add_value.ensures
          ∙ ap (λ n. c.loop-x.registers.items ++ value_var (named_in s) c.loop-x.x n ∷ []) w.first_number.ensures)
          (w.in_ok-add_tag.ensures ∙ ap (λ n. w.add_value.new.variables.items ++ tag_var (named_in s) (tag_width s) c.loop-x.x n ∷ []) w.first_code.ensures))
      | else-is_register w ↦
          ap (λ v. v.items) w.registers-is
          ∙ passed s (program.is_register (world_in s)) (of_register s) c.loop-x.x c.args.registers.now.items c.loop-x.registers.items
          (omega arith) (sym w.if-is_register.ensures) c.loop-x.invariant
    ]
