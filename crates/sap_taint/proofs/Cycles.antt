-- TaggedValuation runs of one netlist on related inputs are related in every cycle.
use Rattle.sap_lemmas.proofs.Common.{◌≡◌, ℕ, List, [], ◌∷◌, map, Option, Some, None, sym, ◌∙◌, subst, refl, ⊎_elim, bytes_eq, AllByRecursion, cases_Bool, equal_of_bytes_eq}
use Rattle.sap_maps.specs.Prelude.{Name, Scope}
use Rattle.sap_net.specs.Prelude.{Net, operand_value, Shapes, IsRegister, IsMemory, first_readable, readable, shapes, width_of, IsNetlist, written, InputsAre}
use Rattle.sap_net.specs.declared.parts.Input.{Input}
use Rattle.sap_net.specs.declared.parts.Register.{Register}
use Rattle.sap_net.specs.declared.parts.Memory.{Memory}
use Rattle.sap_net.proofs.Same.{AreFound, all_found}
use Rattle.sap_taint.specs.Tags.{operand_tag, written_tag}
use Rattle.sap_taint.specs.Runs.{TaggedNumber, numbers_of, TaggedValuation, TagsGiven, IsTaintedCycle, IsTaintedRunAfter}
use Rattle.sap_meaning.specs.Agree.{Relation}
use Rattle.sap_taint.specs.Alike.{AreRelated, RunsRelated, InputsRelated, StreamsRelated}
use Rattle.sap_taint.proofs.Keeps.{Keeps}
use Rattle.sap_taint.proofs.Related.{MemoryRelated, OperandRelated, WrittenRelated, ValuesRelated, MemoriesRelated, values_more, values_both, operand_related, wires_related, written_related}

pub inputs_related : (R : Relation) → (is : List Input) (xs ys : List TaggedNumber) (c d : TaggedValuation) → InputsRelated R xs ys
    → InputsAre c.numbers is (numbers_of xs) → InputsAre d.numbers is (numbers_of ys) → TagsGiven c.tags is xs → TagsGiven d.tags is ys
    → ValuesRelated R (map (λ i. (i.name, i.width)) is) c d
inputs_related R [] xs ys c d e a b t s x w h = absurd (cc)
inputs_related R (i ∷ is) [] ys c d e a b t s x w h = absurd t
inputs_related R (i ∷ is) (p ∷ xs) [] c d e a b t s x w h = absurd s
inputs_related R (i ∷ is) (p ∷ xs) (q ∷ ys) c d e a b t s x w h =
    values_more R _ c d i.name i.width (inputs_related R is xs ys c d e.1 a.1 b.1 t.1 s.1) (rw (a.0, b.0, t.0, s.0) e.0) x w h

-- registers that have related numbers and tags
pub registers_related : (R : Relation) (f g t s : Register → ℕ) (rs : List Register) (c d : TaggedValuation) → AllByRecursion (λ r. R (f r ≡ g r) (t r) (s r)) rs
    → AllByRecursion (λ r. c.numbers.value r.name ≡ f r) rs → AllByRecursion (λ r. d.numbers.value r.name ≡ g r) rs
    → AllByRecursion (λ r. c.tags.value r.name ≡ t r) rs → AllByRecursion (λ r. d.tags.value r.name ≡ s r) rs
    → ValuesRelated R (map (λ r. (r.name, r.width)) rs) c d
registers_related R f g t s [] c d e cv dv ct dt x w h = absurd (cc)
registers_related R f g t s (r ∷ rs) c d e cv dv ct dt x w h =
    values_more R _ c d r.name r.width (registers_related R f g t s rs c d e.1 cv.1 dv.1 ct.1 dt.1) (rw (cv.0, dv.0, ct.0, dt.0) e.0) x w h

pub memories_related : (R : Relation) → Keeps R → (f g : Memory → ℕ → ℕ) (t s : Memory → ℕ) (ms : List Memory) (c d : TaggedValuation)
    → AllByRecursion (λ m. R ((i : ℕ) → f m i ≡ g m i) (t m) (s m)) ms
    → AllByRecursion (λ m. (i : ℕ) → c.numbers.cell m.name i ≡ f m i) ms → AllByRecursion (λ m. (i : ℕ) → d.numbers.cell m.name i ≡ g m i) ms
    → AllByRecursion (λ m. c.tags.memory m.name ≡ t m) ms → AllByRecursion (λ m. d.tags.memory m.name ≡ s m) ms
    → MemoriesRelated R (map (λ m. (m.name, (m.width, m.depth))) ms) c d
memories_related R k f g t s [] c d e cv dv ct dt x w h = absurd (cc)
memories_related R k f g t s (m ∷ ms) c d e cv dv ct dt x w h =
    ⊎_elim
    (λ b. subst (λ (y : Name). MemoryRelated R c d y) (equal_of_bytes_eq m.name x b)
    (rw (ct.0, dt.0) (k.follow _ _ _ _ (λ p i. cv.0 i ∙ p i ∙ sym (dv.0 i)) e.0)))
    (λ q. memories_related R k f g t s ms c d e.1 cv.1 dv.1 ct.1 dt.1 x w (rw q at h))
    (cases_Bool (bytes_eq m.name x))

starts_related : (R : Relation) → Keeps R → (rs : List Register) → AllByRecursion (λ r. R (r.start ≡ r.start) 0 0) rs
starts_related R k [] = tt
starts_related R k (r ∷ rs) = (k.plain _ refl, starts_related R k rs)

fills_related : (R : Relation) → Keeps R → (ms : List Memory) → AllByRecursion (λ m. R ((i : ℕ) → m.start ≡ m.start) 0 0) ms
fills_related R k [] = tt
fills_related R k (m ∷ ms) = (k.plain _ (λ i. refl), fills_related R k ms)

pub nexts_related : (R : Relation) → Keeps R → (sc : Scope) (c d : TaggedValuation) → ValuesRelated R sc c d → (rs : List Register) → AllByRecursion (IsRegister sc) rs
    → AllByRecursion (λ r. OperandRelated R c d r.next) rs
nexts_related R k sc c d a [] h = tt
nexts_related R k sc c d a (r ∷ rs) h = (operand_related R k sc c d a r.width r.next h.0.1, nexts_related R k sc c d a rs h.1)

pub all_written_related : (R : Relation) → Keeps R → (sc : Scope) (shapes : Shapes) (c d : TaggedValuation) → ValuesRelated R sc c d → MemoriesRelated R shapes c d
    → (ms : List Memory) → AllByRecursion (IsMemory sc) ms → AreFound shapes ms
    → AllByRecursion (λ m. WrittenRelated R c d m) ms
all_written_related R k sc shapes c d a b [] rules has = tt
all_written_related R k sc shapes c d a b (m ∷ ms) rules has =
    (written_related R k sc shapes c d a b m rules.0 has.0, all_written_related R k sc shapes c d a b ms rules.1 has.1)

related_from : (R : Relation) → Keeps R → (n : Net) → IsNetlist n → (p q : Option TaggedValuation) (xs ys : List TaggedNumber) (c d : TaggedValuation) → InputsRelated R xs ys
    → IsTaintedCycle n p xs c → IsTaintedCycle n q ys d
    → ValuesRelated R (map (λ r. (r.name, r.width)) n.registers) c d → MemoriesRelated R (shapes n) c d → AreRelated R n c d
related_from R k n rules p q xs ys c d e a b registers memories =
    let inputs = inputs_related R n.inputs xs ys c d e a.runs.given b.runs.given a.given b.given in
    let first : ValuesRelated R (first_readable n) c d = values_both R _ _ c d inputs registers in
    record {
      value = wires_related R k (width_of n) (shapes n) n.wires (first_readable n) c d rules.assigns memories first
          a.runs.valuation.equations b.runs.valuation.equations a.wires b.wires;
      memory = memories;
    }

abbrev pub RelatedBefore : Relation → Net → Option TaggedValuation → Option TaggedValuation → Type 0
RelatedBefore R n None None = Unit {0}
RelatedBefore R n None (Some q) = ⊥
RelatedBefore R n (Some p) None = ⊥
RelatedBefore R n (Some p) (Some q) = AreRelated R n p q

pub cycle_related : (R : Relation) → Keeps R → (n : Net) → IsNetlist n → (p q : Option TaggedValuation) (xs ys : List TaggedNumber) (c d : TaggedValuation) → RelatedBefore R n p q
    → InputsRelated R xs ys → IsTaintedCycle n p xs c → IsTaintedCycle n q ys d → AreRelated R n c d
cycle_related R k n rules None None xs ys c d before e a b =
    related_from R k n rules None None xs ys c d e a b
    (registers_related R (λ r. r.start) (λ r. r.start) (λ r. 0) (λ r. 0) n.registers c d (starts_related R k n.registers)
    a.runs.begins.0 b.runs.begins.0 a.begins.0 b.begins.0)
    (memories_related R k (λ m i. m.start) (λ m i. m.start) (λ m. 0) (λ m. 0) n.memories c d (fills_related R k n.memories)
    a.runs.begins.1 b.runs.begins.1 a.begins.1 b.begins.1)
cycle_related R k n rules None (Some q) xs ys c d before e a b = absurd before
cycle_related R k n rules (Some p) None xs ys c d before e a b = absurd before
cycle_related R k n rules (Some p) (Some q) xs ys c d before e a b =
    related_from R k n rules (Some p) (Some q) xs ys c d e a b
    (registers_related R (λ r. operand_value p.numbers r.next) (λ r. operand_value q.numbers r.next) (λ r. operand_tag p.tags r.next) (λ r. operand_tag q.tags r.next)
    n.registers c d (nexts_related R k (readable n) p q before.value n.registers rules.nexts)
    a.runs.begins.0 b.runs.begins.0 a.begins.0 b.begins.0)
    (memories_related R k (written p.numbers) (written q.numbers) (written_tag p.numbers p.tags) (written_tag q.numbers q.tags) n.memories c d
    (all_written_related R k (readable n) (shapes n) p q before.value before.memory n.memories rules.writes (all_found n.memories rules.memory_shapes))
    a.runs.begins.1 b.runs.begins.1 a.begins.1 b.begins.1)

pub runs_related : (R : Relation) → Keeps R → (n : Net) → IsNetlist n → (xss yss : List (List TaggedNumber)) (p q : Option TaggedValuation) (cs ds : List TaggedValuation)
    → RelatedBefore R n p q → StreamsRelated R xss yss → IsTaintedRunAfter n p xss cs → IsTaintedRunAfter n q yss ds → RunsRelated R n cs ds
runs_related R k n rules [] [] p q [] [] before e a b = tt
runs_related R k n rules [] [] p q [] (d ∷ ds) before e a b = absurd b
runs_related R k n rules [] [] p q (c ∷ cs) ds before e a b = absurd a
runs_related R k n rules [] (ys ∷ yss) p q cs ds before e a b = absurd e
runs_related R k n rules (xs ∷ xss) [] p q cs ds before e a b = absurd e
runs_related R k n rules (xs ∷ xss) (ys ∷ yss) p q [] ds before e a b = absurd a
runs_related R k n rules (xs ∷ xss) (ys ∷ yss) p q (c ∷ cs) [] before e a b = absurd b
runs_related R k n rules (xs ∷ xss) (ys ∷ yss) p q (c ∷ cs) (d ∷ ds) before e a b =
    let here = cycle_related R k n rules p q xs ys c d before e.0 a.0 b.0 in
    (here, runs_related R k n rules xss yss (Some c) (Some d) cs ds here e.1 a.1 b.1)
