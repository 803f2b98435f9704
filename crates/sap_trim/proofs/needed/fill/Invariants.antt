use Rattle.std.proofs.Common.{◌≡◌, ◌++◌, false, replicate}
use Rattle.sap_trim.proofs.needed.fill.Given as goal

abbrev pub invariant-loop-i : goal.invariant-loop-i
invariant-loop-i l = l.marks.items ≡ l.fn.marks.items ++ replicate l.i false
