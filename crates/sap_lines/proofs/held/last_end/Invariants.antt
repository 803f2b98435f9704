use Rattle.sap_lemmas.proofs.Common.{◌≤◌, ◌<◌, ℕ, length, get_or, ◌≢◌}
use Rattle.sap_lines.proofs.held.last_end.Given as goal

abbrev pub invariant-loop-at : goal.invariant-loop-at
invariant-loop-at l = record {
  within : l.at ≤ length l.bytes;
  none : (k : ℕ) → l.at ≤ k → k < length l.bytes → get_or l.bytes k 0 ≢ 10;
}

abbrev pub decreases-loop-at : goal.decreases-loop-at
decreases-loop-at l = l.at
