use Rattle.std.proofs.Common.{◌≡◌, ◌++◌, drop, filter, map}
use Rattle.sap_share.specs.Sets.{holds}
use Rattle.sap_build.specs.Copies as copies
use Rattle.sap_linked.specs.Parts as parts
use Rattle.sap_joined.specs.Joined as spec
use Rattle.sap_joined.proofs.ports.add_ports_of.Given as goal

abbrev pub invariant-loop-port : goal.invariant-loop-port
invariant-loop-port l = record {
  free : l.sorted.free.items ++ filter (spec.is_free_port (holds l.fed))
      (map (copies.copy_port (parts.in_part l.part)) (drop l.port-index l.ports)) ≡ l.fn.sorted.free.items
      ++ filter (spec.is_free_port (holds l.fed)) (map (copies.copy_port (parts.in_part l.part)) l.ports);
  registers : l.sorted.registers.items ++ filter spec.is_register_port
      (map (copies.copy_port (parts.in_part l.part)) (drop l.port-index l.ports)) ≡ l.fn.sorted.registers.items
      ++ filter spec.is_register_port (map (copies.copy_port (parts.in_part l.part)) l.ports);
  wires : l.sorted.wires.items ++ filter spec.is_wire_port (map (copies.copy_port (parts.in_part l.part)) (drop l.port-index l.ports))
      ≡ l.fn.sorted.wires.items ++ filter spec.is_wire_port (map (copies.copy_port (parts.in_part l.part)) l.ports);
  fed : l.sorted.fed.items ++ map spec.as_wire
      (filter (spec.is_fed_port (holds l.fed)) (map (copies.copy_port (parts.in_part l.part)) (drop l.port-index l.ports)))
      ≡ l.fn.sorted.fed.items ++ map spec.as_wire (filter (spec.is_fed_port (holds l.fed)) (map (copies.copy_port (parts.in_part l.part)) l.ports));
}
