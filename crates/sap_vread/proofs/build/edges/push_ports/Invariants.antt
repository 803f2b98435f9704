use Rattle.std.proofs.Common.{◌≡◌, ◌++◌, flat_map, take}
use Rattle.sap_vread.specs.Build.Built as spec
use Rattle.sap_vread.specs.Build.Firsts.{number_of}
use Rattle.sap_vparse.specs.Views.{direction_of}
use Rattle.sap_vread.proofs.build.edges.push_ports.Given as goal

abbrev pub invariant-loop-port : goal.invariant-loop-port
invariant-loop-port l = l.registers.items ≡ l.initial.registers.items
    ++ flat_map (λ p. spec.port_registers (number_of l.tables.starts) (number_of l.tables.nexts) l.items (direction_of p.direction)
    p.name.name p.range.value) (take l.port-index l.ports)
