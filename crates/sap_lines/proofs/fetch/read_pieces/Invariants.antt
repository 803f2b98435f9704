use Rattle.std.proofs.Common.{◌≡◌, ◌-◌, ◌<◌, ◌^◌, ◌++◌, ℕ, List}
use Rattle.sap_lines.specs.Fetched.{More}
use Rattle.sap_lines.proofs.fetch.read_pieces.Given as goal

-- the pieces so far
abbrev pub invariant-loop-piece : goal.invariant-loop-piece
invariant-loop-piece g l = record {
  more : More l.channel l.fn.held l.held (g.D.Desk.told l.fn.desk) (g.D.Desk.told l.desk) (g.D.Desk.given l.fn.desk) (g.D.Desk.given l.desk);
  behind : (piece : List ℕ) × (l.held ≡ l.fn.held ++ piece);
  bounded : g.D.Desk.given l.fn.desk l.channel < 2 ^ 32 → g.D.Desk.given l.desk l.channel < 2 ^ 32;
  faults : g.D.Desk.faults l.desk ≡ g.D.Desk.faults l.fn.desk;
  lost : g.D.Desk.lost l.desk ≡ g.D.Desk.lost l.fn.desk;
  sure : g.D.Desk.sure l.fn.desk → g.D.Desk.sure l.desk;
}

abbrev pub decreases-loop-piece : goal.decreases-loop-piece
decreases-loop-piece g l = 2 ^ 32 - g.D.Desk.given l.desk l.channel
