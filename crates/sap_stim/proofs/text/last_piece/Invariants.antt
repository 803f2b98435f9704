use Rattle.std.proofs.Common.{◌≤◌, length, drop}
use Rattle.sap_stim.proofs.LastPiece.{IsUnmarked}
use Rattle.sap_stim.proofs.text.last_piece.Given as goal

abbrev pub invariant-loop-start : goal.invariant-loop-start
invariant-loop-start l = record {
  within : l.start ≤ length l.line;
  unmarked : IsUnmarked 32 (drop l.start l.line);
}

abbrev pub decreases-loop-start : goal.decreases-loop-start
decreases-loop-start l = l.start
