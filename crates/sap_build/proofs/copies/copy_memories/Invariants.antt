use Rattle.std.proofs.Common.{◌≡◌, take}
use Rattle.sap_build.proofs.copies.copy_memories.Given as goal

abbrev pub invariant-loop-memory : goal.invariant-loop-memory
invariant-loop-memory l = l.copies.items ≡ take l.memory-index l.memories
