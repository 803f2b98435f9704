use Rattle.std.proofs.Common.{◌≡◌, ◌++◌, drop}
use Rattle.sap_tree.specs.Trees.{state_of, states_of}
use Rattle.sap_names.specs.Lists.{states_entities}
use Rattle.sap_tree.proofs.Weights.{state_weight, states_weight}
use Rattle.sap_names.proofs.collect.+states.Given as goal

abbrev pub decreases-add_state : goal.decreases-add_state
decreases-add_state l = state_weight (state_of l.state.now)

abbrev pub decreases-add_states : goal.decreases-add_states
decreases-add_states l = states_weight (states_of l.states.now)

abbrev pub invariant-add_states-loop-state : goal.invariant-add_states-loop-state
invariant-add_states-loop-state l = l.list.items ++ states_entities (drop l.state-index l.states) ≡ l.initial.list.items ++ states_entities l.states
