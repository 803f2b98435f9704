use Rattle.std.proofs.Common.{◌≡◌, drop}
use Rattle.sap_names.specs.Best.{best_of}
use Rattle.sap_shape.specs.Lists.{group_shape}
use Rattle.sap_tree.specs.Trees.{state_of, states_of}
use Rattle.sap_tree.proofs.Weights.{state_weight, states_weight}
use Rattle.sap_shape.proofs.states.+shape.Given as goal

-- what is left gives the first of all
abbrev pub invariant-group_shape-loop-state : goal.invariant-group_shape-loop-state
invariant-group_shape-loop-state l =
    best_of l.best (group_shape l.names l.group l.above (drop l.state-index l.group)) ≡ best_of l.initial.best (group_shape l.names l.group l.above l.group)

abbrev pub decreases-state_shape : goal.decreases-state_shape
decreases-state_shape l = state_weight (state_of l.state.now)

abbrev pub decreases-group_shape : goal.decreases-group_shape
decreases-group_shape l = states_weight (states_of l.group.now)
