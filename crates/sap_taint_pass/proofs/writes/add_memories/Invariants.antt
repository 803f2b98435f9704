use Rattle.std.proofs.Common.{◌≡◌, ℕ, drop}
use Rattle.sap_net.specs.Net.{Net}
use Rattle.sap_build.specs.Writing.{grown}
use Rattle.sap_taint_pass.specs.Tainted.{write_wires, memory_tags, help_for_writes}
use Rattle.sap_taint_pass.specs.Helping.{helping_name}
use Rattle.sap_taint_pass.specs.Helped.{help_from, Helped}
use Rattle.sap_taint_pass.proofs.writes.add_memories.Given as goal

abbrev pub invariant-loop-memory : goal.invariant-loop-memory
invariant-loop-memory l =
    (n : Net) (k : ℕ) → Helped n k l.fn.writer
    → (j : ℕ) × Helped n j l.writer
    × (grown (help_from n j (help_for_writes (drop l.memory-index l.memories))) (write_wires (helping_name n) l.width j (drop l.memory-index l.memories))
    (memory_tags (helping_name n) l.width j (drop l.memory-index l.memories)) l.writer
    ≡ grown (help_from n k (help_for_writes l.memories)) (write_wires (helping_name n) l.width k l.memories) (memory_tags (helping_name n) l.width k l.memories) l.fn.writer)
