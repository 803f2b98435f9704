use Rattle.std.proofs.Common.{◌∙◌, List, sym, ap, refl, arith}
use Rattle.sap_tree.specs.Trees.{states_of}
use Rattle.sap_tree.specs.declared.syntax.State.{State}
use Rattle.sap_shape.specs.ShapeFaults.{is_in_group}
use Rattle.sap_shape.proofs.Members.{group_here}
use Rattle.sap_shape.proofs.position.+is_in_group.Goals as goal

pub returns-then-same : goal.returns-then-same
returns-then-same t c =
    sym (group_here c.args.name.now c.args.states.now c.loop-state.state-index c.state-item.result _ _ (omega arith) c.state-item.is (sym c.if-same.true ∙ c.same.ensures) refl)
    ∙ c.loop-state.invariant

pub returns-then-is_in_group : goal.returns-then-is_in_group
returns-then-is_in_group t c =
    sym (group_here c.args.name.now c.args.states.now c.loop-state.state-index c.state-item.result _ _ (omega arith) c.state-item.is (sym c.if-same.false ∙ c.same.ensures)
    (sym c.if-is_in_group.true ∙ c.is_in_group.ensures ∙ ap (λ (l : List State). is_in_group (states_of l) c.args.name.now) c.as_slice.ensures.value))
    ∙ c.loop-state.invariant

pub loop-state-preserved : goal.loop-state-preserved
loop-state-preserved t c =
    sym (group_here c.args.name.now c.args.states.now c.loop-state.state-index c.state-item.result _ _ (omega arith) c.state-item.is (sym c.if-same.false ∙ c.same.ensures)
    (sym c.if-is_in_group.false ∙ c.is_in_group.ensures ∙ ap (λ (l : List State). is_in_group (states_of l) c.args.name.now) c.as_slice.ensures.value))
    ∙ c.loop-state.invariant
