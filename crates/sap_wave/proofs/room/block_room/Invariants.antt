use Rattle.std.proofs.Common.{◌≡◌, ◌+◌}
use Rattle.sap_wave.specs.Dumping.{block_room}
use Rattle.sap_wave.proofs.Rooms.{room_from}
use Rattle.sap_wave.proofs.room.block_room.Given as goal

abbrev pub invariant-loop-k : goal.invariant-loop-k
invariant-loop-k l = l.room + room_from l.variables l.k ≡ block_room l.variables
