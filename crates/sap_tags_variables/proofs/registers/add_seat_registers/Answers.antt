use Rattle.sap_lemmas.proofs.Common.{ap, ◌∙◌, arith, less_test_of_positive}
use Rattle.sap_tags_variables.proofs.OfEntities.{has_children}
use Rattle.sap_tags_variables.proofs.OfEntities.{of_parent, picked, passed, none, with_root}
use Rattle.sap_tags_variables.proofs.registers.add_seat_registers.Goals as goal
use Rattle.sap_tags_variables.proofs.registers.add_seat_registers.Goals.{then-child_count-gt0+in_ok-add_seat, else-child_count-gt0}

pub loop-p-preserved : goal.loop-p-preserved
loop-p-preserved c =
    let s = c.args.setting.now in
    elim c.if-child_count-gt0.branch [
      | then-child_count-gt0+in_ok-add_seat w ↦
          ap (λ v. v.items) w.registers-is
          ∙ picked s (has_children s) (of_parent s) c.loop-p.p c.args.registers.now.items c.loop-p.registers.items _ (omega arith)
          (less_test_of_positive _ (omega (arith, c.child_count.ensures))) c.loop-p.invariant (w.in_ok-add_seat.ensures)
      | else-child_count-gt0 w ↦
          ap (λ v. v.items) w.registers-is
          ∙ passed s (has_children s) (of_parent s) c.loop-p.p c.args.registers.now.items c.loop-p.registers.items (omega arith)
          (none _ (omega (arith, c.child_count.ensures))) c.loop-p.invariant
    ]

pub returns : goal.returns
returns c =
    with_root c.args.setting.now c.loop-p.p c.len-root.result c.args.registers.now.items c.loop-p.registers.items _ (omega arith)
    (omega arith) c.loop-p.invariant c.in_ok-add_seat-2.ensures
