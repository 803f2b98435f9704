use Rattle.std.proofs.Common.{◌≡◌, ◌++◌, drop, filter, map}
use Rattle.sap_share.specs.Sets.{holds}
use Rattle.sap_build.specs.Copies as copies
use Rattle.sap_linked.specs.Parts as parts
use Rattle.sap_joined.specs.Joined as spec
use Rattle.sap_joined.proofs.registers.add_registers_of.Given as goal

abbrev pub invariant-loop-register : goal.invariant-loop-register
invariant-loop-register l = record {
  shown : l.registers.shown.items ++ filter (spec.is_shown_register (holds l.shown))
      (map (copies.copy_register (parts.in_part l.part)) (drop l.register-index l.given)) ≡ l.fn.registers.shown.items
      ++ filter (spec.is_shown_register (holds l.shown)) (map (copies.copy_register (parts.in_part l.part)) l.given);
  hidden : l.registers.hidden.items ++ filter (spec.is_hidden_register (holds l.shown))
      (map (copies.copy_register (parts.in_part l.part)) (drop l.register-index l.given)) ≡ l.fn.registers.hidden.items
      ++ filter (spec.is_hidden_register (holds l.shown)) (map (copies.copy_register (parts.in_part l.part)) l.given);
}
