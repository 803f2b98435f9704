use Rattle.std.proofs.Common.{◌≡◌, ◌+◌, ◌++◌, drop, map}
use Rattle.sap_tree.proofs.Weights.{state_weight, states_weight}
use Rattle.sap_tree.specs.Trees.{state_of, states_of}
use Rattle.sap_resolve.specs.Lists.{states_below, group_entities, group_names, own_names}
use Rattle.sap_program.specs.Views.{entity_of}
use Rattle.sap_resolve.proofs.entities.+states.Given as goal

-- with those of what is left
abbrev pub invariant-add_states-loop-place : goal.invariant-add_states-loop-place
invariant-add_states-loop-place l =
    (map entity_of l.made.items ++ group_entities l.lattice l.place l.number (drop l.place l.group) ≡ map entity_of l.initial.made.items
    ++ group_entities l.lattice 0 l.initial.number l.group)
    × (own_names l.made.items ++ group_names (drop l.place l.group) ≡ own_names l.initial.made.items ++ group_names l.group)
    × (l.number + states_below (drop l.place l.group) ≡ l.initial.number + states_below l.group)

abbrev pub decreases-add_state : goal.decreases-add_state
decreases-add_state l = state_weight (state_of l.s.now)

abbrev pub decreases-add_states : goal.decreases-add_states
decreases-add_states l = states_weight (states_of l.group.now)
