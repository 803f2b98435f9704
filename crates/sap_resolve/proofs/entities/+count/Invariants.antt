use Rattle.std.proofs.Common.{◌≡◌, ◌+◌, drop}
use Rattle.sap_tree.proofs.Weights.{state_weight, states_weight}
use Rattle.sap_tree.specs.Trees.{state_of, states_of}
use Rattle.sap_resolve.specs.Lists.{states_below}
use Rattle.sap_resolve.proofs.entities.+count.Given as goal

-- with those of what is left
abbrev pub invariant-states_below-loop-s : goal.invariant-states_below-loop-s
invariant-states_below-loop-s l = l.count + states_below (drop l.s-index l.group) ≡ states_below l.group

abbrev pub decreases-states_in : goal.decreases-states_in
decreases-states_in l = state_weight (state_of l.s.now)

abbrev pub decreases-states_below : goal.decreases-states_below
decreases-states_below l = states_weight (states_of l.group.now)
