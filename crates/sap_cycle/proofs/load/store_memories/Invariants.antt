use Rattle.std.proofs.Common.{take}
use Rattle.sap_cycle.specs.Known.{AreStored}
use Rattle.sap_cycle.proofs.load.store_memories.Given as goal

abbrev pub invariant-loop-i : goal.invariant-loop-i
invariant-loop-i l = AreStored (take l.i l.memories) l.numbers l.bases.items l.cells.items
