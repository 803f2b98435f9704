use Rattle.std.proofs.Common.{◌∙◌, arith}
use Rattle.sap_check.proofs.PointLists.{group_end, states_step}
use Rattle.sap_check.proofs.points.+states.Goals as goal

pub add_states-loop-state-preserved : goal.add_states-loop-state-preserved
add_states-loop-state-preserved t c =
    states_step c.args.states.now c.loop-state.state-index c.state-item.result _ _ (omega arith) c.state-item.is c.in_ok-add_state.ensures
    ∙ c.loop-state.invariant

pub add_states-returns : goal.add_states-returns
add_states-returns t c = group_end c.args.states.now c.loop-state.state-index _ _ (omega arith) c.loop-state.invariant
