use Rattle.std.proofs.Common.{◌≡◌, ◌+◌, drop}
use Rattle.sap_stim.proofs.RowRoom.{taken}
use Rattle.sap_stim.proofs.room.row_room.Given as goal

-- the registers so far
abbrev pub invariant-loop-name : goal.invariant-loop-name
invariant-loop-name l = l.room + taken l.level (drop l.name-index l.names) ≡ 28 + taken l.level l.names
