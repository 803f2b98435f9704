use Rattle.sap_check.specs.Checked.{tree_in}
use Rattle.sap_trace.proofs.Rooms.{IsLeast, IsMost}
use Rattle.sap_trace.proofs.room.most_beside_level.Given as goal

-- the sites so far
abbrev pub invariant-loop-k : goal.invariant-loop-k
invariant-loop-k l = record {
  most : IsMost (tree_in l.checked) l.k l.most;
  least : IsLeast (tree_in l.checked) l.most;
}
