use Rattle.std.proofs.Common.{◌≡◌, ◌+◌, drop, length}
use Rattle.sap_tree.proofs.Weights.{state_weight, states_weight}
use Rattle.sap_tree.specs.Trees.{state_of, states_of}
use Rattle.sap_resolve.specs.Surroundings.{known_rows}
use Rattle.sap_resolve.specs.Lists.{group_from, group_site_count, states_below}
use Rattle.sap_resolve.specs.Rows.{group_points, group_with}
use Rattle.sap_program.specs.Views.{group_of, joined}
use Rattle.sap_resolve.proofs.states.+states.Given as goal

-- with those of what is left
abbrev pub invariant-states-loop-s : goal.invariant-states-loop-s
invariant-states-loop-s l =
    (joined (group_of (length l.known.names.now) l.made.items)
    (group_with (known_rows l.known) l.point (group_from l.known.lattice.now l.known.names.now l.next l.number (drop l.s-index l.group)))
    ≡ group_with (known_rows l.known) l.initial.point (group_from l.known.lattice.now l.known.names.now l.initial.next l.initial.number l.group))
    × (l.next + group_site_count l.known.names.now (drop l.s-index l.group) ≡ l.initial.next + group_site_count l.known.names.now l.group)
    × (l.number + states_below (drop l.s-index l.group) ≡ l.initial.number + states_below l.group)
    × (l.point + group_points (group_from l.known.lattice.now l.known.names.now l.next l.number (drop l.s-index l.group))
    ≡ l.initial.point + group_points (group_from l.known.lattice.now l.known.names.now l.initial.next l.initial.number l.group))

abbrev pub decreases-state : goal.decreases-state
decreases-state l = state_weight (state_of l.s.now)

abbrev pub decreases-states : goal.decreases-states
decreases-states l = states_weight (states_of l.group.now)
