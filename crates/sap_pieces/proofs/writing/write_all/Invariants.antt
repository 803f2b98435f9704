use Rattle.std.proofs.Common.{◌≡◌, ◌++◌, ◌≤◌, ℕ, List, length}
use Rattle.sap_pieces.specs.Written.{PartWritten}
use Rattle.sap_pieces.specs.declared.TheConstants.{LARGE_BYTES}
use Rattle.sap_pieces.proofs.writing.write_all.Given as goal

abbrev pub invariant-loop-desk : goal.invariant-loop-desk
invariant-loop-desk g l = record {
  stands : (text : List ℕ) × g.P.Pieces.comes l.pieces text;
  written : (text : List ℕ) → g.P.Pieces.comes l.fn.pieces text
      → (rest : List ℕ) × g.P.Pieces.comes l.pieces rest × PartWritten l.channel text (l.waiting.bytes ++ rest) (g.D.Desk.told l.fn.desk) (g.D.Desk.told l.desk);
  few : length l.waiting.bytes ≤ LARGE_BYTES;
  room : LARGE_BYTES ≤ l.waiting.room;
  given : g.D.Desk.given l.desk ≡ g.D.Desk.given l.fn.desk;
  faults : g.D.Desk.faults l.desk ≡ g.D.Desk.faults l.fn.desk;
  lost : g.D.Desk.lost l.desk ≡ g.D.Desk.lost l.fn.desk;
  sure : g.D.Desk.sure l.fn.desk → g.D.Desk.sure l.desk;
}

abbrev pub decreases-loop-desk : goal.decreases-loop-desk
decreases-loop-desk g l = g.P.Pieces.left l.pieces
