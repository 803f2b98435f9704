use Rattle.std.proofs.Common.{◌≡◌, ◌++◌, drop, filter, map}
use Rattle.sap_share.specs.Sets.{holds}
use Rattle.sap_joined.specs.Joined as spec
use Rattle.sap_joined.specs.Seen as seen
use Rattle.sap_joined.proofs.ports.sort_ports.Given as goal

abbrev pub invariant-loop-part : goal.invariant-loop-part
invariant-loop-part l = record {
  free : l.sorted.free.items ++ filter (spec.is_free_port (holds l.fed)) (spec.part_ports (map seen.named_net (drop l.part-index l.parts)))
      ≡ filter (spec.is_free_port (holds l.fed)) (spec.part_ports (map seen.named_net l.parts));
  registers : l.sorted.registers.items ++ filter spec.is_register_port (spec.part_ports (map seen.named_net (drop l.part-index l.parts)))
      ≡ filter spec.is_register_port (spec.part_ports (map seen.named_net l.parts));
  wires : l.sorted.wires.items ++ filter spec.is_wire_port (spec.part_ports (map seen.named_net (drop l.part-index l.parts)))
      ≡ filter spec.is_wire_port (spec.part_ports (map seen.named_net l.parts));
  fed : l.sorted.fed.items ++ map spec.as_wire
      (filter (spec.is_fed_port (holds l.fed)) (spec.part_ports (map seen.named_net (drop l.part-index l.parts))))
      ≡ map spec.as_wire (filter (spec.is_fed_port (holds l.fed)) (spec.part_ports (map seen.named_net l.parts)));
}
