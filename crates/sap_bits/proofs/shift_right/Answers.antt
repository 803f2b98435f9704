use Rattle.std.proofs.Common.{sym, arith}
use Rattle.sap_bits.proofs.Low.{shr_past}
use Rattle.sap_bits.proofs.shift_right.Goals as goal

pub returns-else-b-from : goal.returns-else-b-from
returns-else-b-from c = sym (shr_past c.args.a c.args.b c.args.w (omega arith) c.requires.left)
