use Rattle.std.proofs.Common.{take}
use Rattle.sap_trim.specs.Needed.{Marks}
use Rattle.sap_trim.specs.Reads.{memory_reads}
use Rattle.sap_trim.proofs.needed.mark_memories.Given as goal

abbrev pub invariant-loop-memory : goal.invariant-loop-memory
invariant-loop-memory l = Marks l.places (memory_reads (take l.memory-index l.memories)) l.fn.marks l.marks
