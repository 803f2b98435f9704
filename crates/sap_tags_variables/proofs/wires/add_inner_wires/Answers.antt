use Rattle.sap_lemmas.proofs.Common.{ap, ◌∙◌, arith, less_test_of_positive}
use Rattle.sap_tags_variables.proofs.OfEntities.{has_children, of_inner, picked, passed, none}
use Rattle.sap_tags_variables.proofs.wires.add_inner_wires.Goals as goal
use Rattle.sap_tags_variables.proofs.wires.add_inner_wires.Goals.{then-child_count-gt0+in_ok-add_inner, else-child_count-gt0}

pub loop-state-preserved : goal.loop-state-preserved
loop-state-preserved c =
    let s = c.args.setting.now in
    elim c.if-child_count-gt0.branch [
      | then-child_count-gt0+in_ok-add_inner w ↦
          ap (λ v. v.items) w.wires-is
          ∙ picked s (has_children s) (of_inner s) c.loop-state.state c.args.wires.now.items c.loop-state.wires.items _ (omega arith)
          (less_test_of_positive _ (omega (arith, c.child_count.ensures))) c.loop-state.invariant (w.in_ok-add_inner.ensures)
      | else-child_count-gt0 w ↦
          ap (λ v. v.items) w.wires-is
          ∙ passed s (has_children s) (of_inner s) c.loop-state.state c.args.wires.now.items c.loop-state.wires.items (omega arith)
          (none _ (omega (arith, c.child_count.ensures))) c.loop-state.invariant
    ]
