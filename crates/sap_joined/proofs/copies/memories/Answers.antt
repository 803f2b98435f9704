use Rattle.sap_lemmas.proofs.Common.{List, subst, sym, All}
use Rattle.sap_net.specs.declared.parts.Memory.{Memory}
use Rattle.sap_joined.specs.Spelled.{MemorySpelled}
use Rattle.sap_joined.proofs.Spelling.{all_memories_spelled}
use Rattle.sap_joined.proofs.copies.memories.Goals as goal

pub add_memories_of-requires : goal.add_memories_of-requires
add_memories_of-requires c = subst (λ (xs : List Memory). All MemorySpelled xs) (sym c.memories.ensures) (all_memories_spelled c.part-item.result.netlist.now c.rules.ensures)
