use Rattle.std.proofs.Common.{◌≡◌, ◌++◌, replicate}
use Rattle.sap_cycle.proofs.load.fill.Given as goal

abbrev pub invariant-loop-i : goal.invariant-loop-i
invariant-loop-i l = l.numbers.items ≡ l.fn.numbers.items ++ replicate l.i l.number
