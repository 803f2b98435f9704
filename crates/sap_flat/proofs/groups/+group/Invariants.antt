use Rattle.std.proofs.Common.{◌+◌, ◌*◌, drop}
use Rattle.sap_ir.specs.Calcs.{commands_of}
use Rattle.sap_flat.specs.Lists.{states_flat}
use Rattle.sap_flat.proofs.Steps.{Behind}
use Rattle.sap_flat.proofs.Weights.{state_weight, states_weight}
use Rattle.sap_flat.proofs.groups.+group.Given as goal

abbrev pub decreases-state : goal.decreases-state
decreases-state l = 2 * state_weight l.state.now

abbrev pub decreases-states : goal.decreases-states
decreases-states l = 2 * states_weight l.group.now + 1

abbrev pub invariant-states-loop-i : goal.invariant-states-loop-i
invariant-states-loop-i l =
    Behind (commands_of l.out.items) (commands_of l.initial.out.items)
    (states_flat l.seat l.group (drop l.i l.group) (l.first + l.i) l.gates) (states_flat l.seat l.group l.group l.first l.initial.gates)
