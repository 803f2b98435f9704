use Rattle.std.proofs.Common.{arith}
use Rattle.sap_trim.specs.Reads.{memory_reads}
use Rattle.sap_trim.proofs.Marked.{marks_more, writes, writes_push}
use Rattle.sap_trim.proofs.needed.mark_memories.Goals as goal

pub loop-memory-preserved : goal.loop-memory-preserved
loop-memory-preserved c =
    marks_more memory_reads writes writes_push c.args.places.now c.args.memories.now c.loop-memory.memory-index c.memory-item.result
    _ _ _ (omega arith) c.memory-item.is c.loop-memory.invariant c.mark_three.ensures
