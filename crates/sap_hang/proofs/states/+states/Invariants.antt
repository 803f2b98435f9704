use Rattle.std.proofs.Common.{drop}
use Rattle.sap_hang.specs.Walks.{Passed}
use Rattle.sap_hang.proofs.states.+states.Given as goal

-- those from the place on are walked
abbrev pub invariant-add_states-loop-at : goal.invariant-add_states-loop-at
invariant-add_states-loop-at l = Passed l.walk.names.now l.walk.declarations.now (drop l.at l.states) l.fn.rows.items l.rows.items l.assigned l.falls
