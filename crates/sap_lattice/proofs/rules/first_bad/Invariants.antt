use Rattle.std.proofs.Common.{◌<◌, ℕ}
use Rattle.sap_lattice.specs.Rules.{BadLevel}
use Rattle.sap_lattice.proofs.rules.first_bad.Given as goal

abbrev pub invariant-loop-k : goal.invariant-loop-k
invariant-loop-k l = (k : ℕ) → k < l.k → BadLevel l.names k → ⊥
