use Rattle.std.proofs.Common.{◌<◌, ℕ}
use Rattle.sap_system.specs.Rules.{BadPart}
use Rattle.sap_system.proofs.parts.first_bad.Given as goal

abbrev pub invariant-loop-k : goal.invariant-loop-k
invariant-loop-k l = (k : ℕ) → k < l.k → BadPart l.parts k → ⊥
