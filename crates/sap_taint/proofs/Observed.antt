-- What is seen of related cycles is related.
use Rattle.std.proofs.Common.{◌≡◌, ℕ, List, [], ◌∷◌, map, Option, Some, None, refl}
use Rattle.sap_maps.specs.Prelude.{Name, find}
use Rattle.sap_net.specs.Prelude.{Net, readable, shapes, IsNetlist, value_after, cell_after}
use Rattle.sap_net.specs.declared.parts.Operand.{Operand}
use Rattle.sap_net.specs.declared.parts.Memory.{Memory}
use Rattle.sap_net.proofs.Same.{all_found}
use Rattle.sap_taint.specs.Runs.{TaggedValuation, value_tag_after, memory_tag_after, observed_with_tags}
use Rattle.sap_meaning.specs.Agree.{Relation}
use Rattle.sap_taint.specs.Alike.{AreRelated, RunsRelated}
use Rattle.sap_taint.proofs.Found.{at_named}
use Rattle.sap_taint.proofs.Keeps.{Keeps}
use Rattle.sap_taint.proofs.Related.{NameRelated, MemoryRelated, OperandRelated, WrittenRelated}
use Rattle.sap_taint.proofs.Cycles.{nexts_related, all_written_related}

value_seen : (R : Relation) (c d : TaggedValuation) (x : Name) (o : Option Operand) → NameRelated R c d x
    → ((next : Operand) → o ≡ Some next → OperandRelated R c d next)
    → R (value_after c.numbers x o ≡ value_after d.numbers x o) (value_tag_after c.tags x o) (value_tag_after d.tags x o)
value_seen R c d x None a f = a
value_seen R c d x (Some next) a f = f next refl

memory_seen : (R : Relation) (c d : TaggedValuation) (x : Name) (o : Option Memory) → MemoryRelated R c d x
    → ((m : Memory) → o ≡ Some m → WrittenRelated R c d m)
    → R ((i : ℕ) → cell_after c.numbers x i o ≡ cell_after d.numbers x i o) (memory_tag_after c x o) (memory_tag_after d x o)
memory_seen R c d x None a f = a
memory_seen R c d x (Some m) a f = f m refl

pub seen_related : (R : Relation) → Keeps R → (n : Net) → IsNetlist n → (c d : TaggedValuation) → AreRelated R n c d
    → AreRelated R n (observed_with_tags n c) (observed_with_tags n d)
seen_related R k n rules c d a =
    record {
      value = λ x w h. value_seen R c d x (find (map (λ r. (r.name, r.next)) n.registers) x) (a.value x w h)
          (at_named (λ y o. OperandRelated R c d o) (λ r. r.name) (λ r. r.next) n.registers (nexts_related R k (readable n) c d a.value n.registers rules.nexts) x);
      memory = λ x s h. memory_seen R c d x (find (map (λ m. (m.name, m)) n.memories) x) (a.memory x s h)
          (at_named (λ y m. WrittenRelated R c d m) (λ m. m.name) (λ m. m) n.memories
          (all_written_related R k (readable n) (shapes n) c d a.value a.memory n.memories rules.writes (all_found n.memories rules.memory_shapes)) x);
    }

pub all_seen_related : (R : Relation) → Keeps R → (n : Net) → IsNetlist n → (cs ds : List TaggedValuation) → RunsRelated R n cs ds
    → RunsRelated R n (map (observed_with_tags n) cs) (map (observed_with_tags n) ds)
all_seen_related R k n rules [] [] a = tt
all_seen_related R k n rules [] (d ∷ ds) a = absurd a
all_seen_related R k n rules (c ∷ cs) [] a = absurd a
all_seen_related R k n rules (c ∷ cs) (d ∷ ds) a = (seen_related R k n rules c d a.0, all_seen_related R k n rules cs ds a.1)
