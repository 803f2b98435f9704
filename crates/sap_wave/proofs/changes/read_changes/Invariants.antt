use Rattle.std.proofs.Common.{ℕ, ◌+◌, ◌≤◌, List, length}
use Rattle.sap_wave.specs.Prelude.{in_block, ReadUpTo, IsSound, open_of}
use Rattle.sap_wave.proofs.changes.read_changes.Given as goal

abbrev pub invariant-changes : goal.invariant-changes
invariant-changes l = record {
  read : (bytes : List ℕ) → ReadUpTo bytes l.text l.line (in_block l.variables (open_of l.fn.reached)) → ReadUpTo bytes l.rest l.next (in_block l.variables (open_of l.reached));
  sound : IsSound (in_block l.variables (open_of l.reached));
  shorter : length l.rest ≤ length l.text;
  few : l.next + length l.rest ≤ l.line + length l.text;
}

abbrev pub decreases-changes : goal.decreases-changes
decreases-changes l = length l.rest
