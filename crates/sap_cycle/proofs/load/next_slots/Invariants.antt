use Rattle.std.proofs.Common.{◌≡◌, map, take}
use Rattle.sap_cycle.specs.Known.{slot_found}
use Rattle.sap_cycle.proofs.load.next_slots.Given as goal

abbrev pub invariant-loop-register : goal.invariant-loop-register
invariant-loop-register l = l.slots.items ≡ map (λ r. slot_found l.known r.next) (take l.register-index l.registers)
