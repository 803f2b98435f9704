use Rattle.std.proofs.Common.{◌≡◌, ◌+◌, ◌*◌, ◌++◌, drop}
use Rattle.sap_ir.specs.Calcs.{commands_of}
use Rattle.sap_flat.specs.Lists.{restart_commands}
use Rattle.sap_flat.proofs.Weights.{state_weight, states_weight}
use Rattle.sap_flat.proofs.moves.+restart.Given as goal

abbrev pub decreases-restart_state : goal.decreases-restart_state
decreases-restart_state l = 2 * state_weight l.state.now

abbrev pub decreases-restart : goal.decreases-restart
decreases-restart l = 2 * states_weight l.states.now + 1

abbrev pub invariant-restart-loop-state : goal.invariant-restart-loop-state
invariant-restart-loop-state l =
    commands_of l.out.items ++ restart_commands l.j (drop l.state-index l.states) ≡ commands_of l.initial.out.items ++ restart_commands l.j l.states
