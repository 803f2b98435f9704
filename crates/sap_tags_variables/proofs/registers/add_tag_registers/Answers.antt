use Rattle.std.proofs.Common.{◌++◌, [], ◌∷◌, sym, ap, ◌∙◌, arith}
use Rattle.sap_tagged.specs.Plain.{has_own_tag, tag_var}
use Rattle.sap_tags_terms.specs.Code.{named_in, tag_width}
use Rattle.sap_tags_variables.proofs.OfEntities.{of_tagged, picked, passed}
use Rattle.sap_tags_variables.proofs.registers.add_tag_registers.Goals as goal
use Rattle.sap_tags_variables.proofs.registers.add_tag_registers.Goals.{then-has_tag+in_ok-add_tag, else-has_tag}

pub loop-x-preserved : goal.loop-x-preserved
loop-x-preserved c =
    let s = c.args.setting.now in
    elim c.if-has_tag.branch [
      | then-has_tag+in_ok-add_tag w ↦
          ap (λ v. v.items) w.registers-is
          ∙ picked s (has_own_tag (named_in s)) (of_tagged s) c.loop-x.x c.args.registers.now.items c.loop-x.registers.items _ (omega arith)
          (sym w.if-has_tag.ensures) c.loop-x.invariant (w.in_ok-add_tag.ensures
          ∙ ap (λ n. c.loop-x.registers.items ++ tag_var (named_in s) (tag_width s) c.loop-x.x n ∷ []) w.first_code.ensures)
      | else-has_tag w ↦
          ap (λ v. v.items) w.registers-is
          ∙ passed s (has_own_tag (named_in s)) (of_tagged s) c.loop-x.x c.args.registers.now.items c.loop-x.registers.items (omega arith)
          (sym w.if-has_tag.ensures) c.loop-x.invariant
    ]
