use Rattle.std.proofs.Common.{◌≡◌, ◌++◌, drop}
use Rattle.sap_check.specs.Lists.{group_points}
use Rattle.sap_check.proofs.points.+states.Given as goal

-- with those of what is left
abbrev pub invariant-add_states-loop-state : goal.invariant-add_states-loop-state
invariant-add_states-loop-state l = l.points.items ++ group_points (drop l.state-index l.states) ≡ l.initial.points.items ++ group_points l.states
