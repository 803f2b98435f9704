use Rattle.sap_lemmas.proofs.Common.{◌≡◌, ◌<◌, ◌≤◌, ℕ, slice_index_or}
use Rattle.sap_vprint.proofs.lookup.position_within.Given as goal

abbrev pub invariant-loop-i : goal.invariant-loop-i
invariant-loop-i g l = (k : ℕ) (x : _) → l.fn.from ≤ k → k < l.i → g.T.Named.name_of (slice_index_or l.list k x) ≡ l.name → ⊥
