use Rattle.std.proofs.Common.{sym, arith}
use Rattle.sap_bits.proofs.Low.{low_bits, shl_past}
use Rattle.sap_bits.proofs.shift_left.Goals as goal

pub returns-then-b-from : goal.returns-then-b-from
returns-then-b-from c = low_bits _ c.args.w _ c.requires.narrow c.mask.ensures

pub returns-else-b-from : goal.returns-else-b-from
returns-else-b-from c = sym (shl_past c.args.a c.args.b c.args.w (omega arith))
