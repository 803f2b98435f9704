use Rattle.std.proofs.Common.{◌≡◌, ◌-◌}
use Rattle.sap_ir.specs.Plain.Nested.{width_from, seat_width}
use Rattle.sap_ir.proofs.plain.seats.width.Given as goal

abbrev pub invariant-loop-bits : goal.invariant-loop-bits
invariant-loop-bits l = width_from (64 - l.bits) l.bits l.count ≡ seat_width l.count
