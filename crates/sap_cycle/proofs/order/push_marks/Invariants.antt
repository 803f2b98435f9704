use Rattle.std.proofs.Common.{◌≡◌, ◌++◌, replicate}
use Rattle.sap_cycle.proofs.order.push_marks.Given as goal

abbrev pub invariant-loop-i : goal.invariant-loop-i
invariant-loop-i l = l.marks.items ≡ l.fn.marks.items ++ replicate l.i l.mark
