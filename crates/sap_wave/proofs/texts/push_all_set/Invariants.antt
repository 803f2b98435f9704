use Rattle.std.proofs.Common.{◌≡◌, ◌++◌}
use Rattle.sap_wave.proofs.WrittenLines.{set_from}
use Rattle.sap_wave.proofs.texts.push_all_set.Given as goal

abbrev pub invariant-loop-k : goal.invariant-loop-k
invariant-loop-k l = l.out.items ++ set_from l.variables l.numbers l.k ≡ l.fn.out.items ++ set_from l.variables l.numbers 0
