use Rattle.std.proofs.Common.{◌≡◌, ◌++◌, map, drop}
use Rattle.sap_lower.specs.Lowered.{input_of}
use Rattle.sap_lower.proofs.declare.inputs.Given as goal

abbrev pub invariant-loop-variable : goal.invariant-loop-variable
invariant-loop-variable l = l.made.items ++ map input_of (drop l.variable-index l.variables) ≡ map input_of l.variables
