use Rattle.std.proofs.Common.{◌≡◌, ◌++◌, map, drop}
use Rattle.sap_lower.specs.Lowered.{picked, register_of}
use Rattle.sap_lower.proofs.declare.port_registers.Given as goal

abbrev pub invariant-loop-port : goal.invariant-loop-port
invariant-loop-port l = l.made.items ++ map (register_of l.entries) (picked l.registers (drop l.port-index l.ports)) ≡ l.fn.made.items
    ++ map (register_of l.entries) (picked l.registers l.ports)
