use Rattle.std.proofs.Common.{◌≤◌}
use Rattle.sap_stim.proofs.RowRoom.{Within}
use Rattle.sap_stim.proofs.RowLeast.{Reached}
use Rattle.sap_stim.proofs.room.longest_level.Given as goal

-- the names so far
abbrev pub invariant-loop-place : goal.invariant-loop-place
invariant-loop-place l = record {
  number : 21 ≤ l.longest;
  names : Within l.lattice.names l.longest l.place;
  some : Reached l.lattice.names l.longest l.place;
}
