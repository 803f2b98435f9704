use Rattle.std.proofs.Common.{◌≡◌, ◌++◌}
use Rattle.sap_wave.proofs.WrittenLines.{declared_from}
use Rattle.sap_wave.proofs.texts.push_declarations.Given as goal

abbrev pub invariant-loop-k : goal.invariant-loop-k
invariant-loop-k l = l.out.items ++ declared_from l.variables l.k ≡ l.fn.out.items ++ declared_from l.variables 0
