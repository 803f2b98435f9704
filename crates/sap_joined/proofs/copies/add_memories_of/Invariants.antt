use Rattle.std.proofs.Common.{◌≡◌, ◌++◌, drop, map}
use Rattle.sap_build.specs.Copies as copies
use Rattle.sap_linked.specs.Parts as parts
use Rattle.sap_joined.proofs.copies.add_memories_of.Given as goal

abbrev pub invariant-loop-memory : goal.invariant-loop-memory
invariant-loop-memory l = l.made.items ++ map (copies.copy_memory (parts.in_part l.part)) (drop l.memory-index l.memories) ≡ l.fn.made.items
    ++ map (copies.copy_memory (parts.in_part l.part)) l.memories
