use Rattle.std.proofs.Common.{◌≡◌, ◌++◌, drop, filter, map}
use Rattle.sap_share.specs.Sets.{holds}
use Rattle.sap_joined.specs.Joined as spec
use Rattle.sap_joined.specs.Seen as seen
use Rattle.sap_joined.proofs.registers.sort_registers.Given as goal

abbrev pub invariant-loop-part : goal.invariant-loop-part
invariant-loop-part l = record {
  shown : l.registers.shown.items ++ filter (spec.is_shown_register (holds l.shown))
      (spec.part_registers (map seen.named_net (drop l.part-index l.parts))) ≡ filter (spec.is_shown_register (holds l.shown)) (spec.part_registers (map seen.named_net l.parts));
  hidden : l.registers.hidden.items ++ filter (spec.is_hidden_register (holds l.shown))
      (spec.part_registers (map seen.named_net (drop l.part-index l.parts))) ≡ filter (spec.is_hidden_register (holds l.shown)) (spec.part_registers (map seen.named_net l.parts));
}
