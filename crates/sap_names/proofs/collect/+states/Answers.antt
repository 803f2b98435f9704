use Rattle.std.proofs.Common.{arith}
use Rattle.sap_names.proofs.Groups.{states_rest}
use Rattle.sap_names.proofs.collect.+states.Goals as goal

pub add_states-returns : goal.add_states-returns
add_states-returns t c = states_rest c.loop-state.list.items c.args.states.now c.loop-state.state-index _ (omega arith) c.loop-state.invariant
