use Rattle.std.proofs.Common.{◌≡◌, ◌++◌, map, drop}
use Rattle.sap_lower.specs.Lowered.{input_port, port_among}
use Rattle.sap_lower.proofs.declare.ports.Given as goal

abbrev pub invariant-loop-name : goal.invariant-loop-name
invariant-loop-name l = l.made.items ++ map (port_among l.registers) (drop l.name-index l.names) ≡ map input_port l.variables ++ map (port_among l.registers) l.names
