use Rattle.std.proofs.Common.{◌≡◌, ◌++◌, map, drop}
use Rattle.sap_lower.specs.Lowered.{input_port}
use Rattle.sap_lower.proofs.declare.input_ports.Given as goal

abbrev pub invariant-loop-variable : goal.invariant-loop-variable
invariant-loop-variable l = l.made.items ++ map input_port (drop l.variable-index l.variables) ≡ map input_port l.variables
