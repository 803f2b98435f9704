use Rattle.std.proofs.Common.{◌≡◌, ◌++◌, map, drop}
use Rattle.sap_lower.specs.Lowered.{zero_entry}
use Rattle.sap_lower.proofs.first.add_zeros.Given as goal

abbrev pub invariant-loop-variable : goal.invariant-loop-variable
invariant-loop-variable l = l.entries.items ++ map zero_entry (drop l.variable-index l.variables) ≡ l.fn.entries.items ++ map zero_entry l.variables
