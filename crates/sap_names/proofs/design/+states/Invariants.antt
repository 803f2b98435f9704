use Rattle.std.proofs.Common.{◌≡◌, drop}
use Rattle.sap_lattice.specs.Levels.{order_of}
use Rattle.sap_tree.specs.Trees.{state_of, states_of}
use Rattle.sap_names.specs.Best.{best_of}
use Rattle.sap_names.specs.Entities.{what_is}
use Rattle.sap_names.specs.Lists.{states_faults}
use Rattle.sap_tree.proofs.Weights.{state_weight, states_weight}
use Rattle.sap_names.proofs.design.+states.Given as goal

abbrev pub decreases-state_faults : goal.decreases-state_faults
decreases-state_faults l = state_weight (state_of l.state.now)

abbrev pub decreases-states_faults : goal.decreases-states_faults
decreases-states_faults l = states_weight (states_of l.states.now)

-- what is left gives the first of all
abbrev pub invariant-states_faults-loop-state : goal.invariant-states_faults-loop-state
invariant-states_faults-loop-state l =
    best_of l.best (states_faults l.lattice.names (order_of l.lattice).le (what_is l.names) (drop l.state-index l.states))
    ≡ best_of l.initial.best (states_faults l.lattice.names (order_of l.lattice).le (what_is l.names) l.states)
