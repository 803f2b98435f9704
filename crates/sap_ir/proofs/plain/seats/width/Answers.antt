use Rattle.std.proofs.Common.{sym, ◌∙◌, arith}
use Rattle.sap_ir.proofs.plain.SeatWidths.{width_start, width_next, shifted}
use Rattle.sap_ir.proofs.plain.seats.width.Goals as goal

pub loop-bits-init : goal.loop-bits-init
loop-bits-init c = width_start c.args.count

pub loop-bits-preserved : goal.loop-bits-preserved
loop-bits-preserved c = sym (width_next c.loop-bits.bits c.args.count (omega arith)
    (omega (arith, c.if-count-bits.false, shifted c.loop-bits.bits c.loop-bits-test.true))) ∙ c.loop-bits.invariant
