-- Cycles and runs on the same inputs have equal numbers.
use Rattle.sap_lemmas.proofs.Common.{◌≡◌, ℕ, List, [], ◌∷◌, map, Option, Some, None, sym, ◌∙◌, subst, ⊎_elim, bytes_eq, AllByRecursion, cases_Bool, equal_of_bytes_eq}
use Rattle.sap_lemmas.proofs.Everywhere.{all_equal, all_equal_at}
use Rattle.sap_maps.specs.Prelude.{Name, Valuation, Scope, find, Agree}
use Rattle.sap_maps.proofs.Scopes.{found_here, found_behind, agree_more, agree_both}
use Rattle.sap_net.specs.declared.parts.Input.{Input}
use Rattle.sap_net.specs.declared.parts.Register.{Register}
use Rattle.sap_net.specs.declared.parts.Memory.{Memory}
use Rattle.sap_net.specs.Net.{Net}
use Rattle.sap_net.specs.Values.{operand_value}
use Rattle.sap_net.specs.Rules.{Shapes, IsRegister, IsMemory, AreMemories}
use Rattle.sap_net.specs.IsNetlist.{first_readable, readable, shapes, width_of, IsNetlist}
use Rattle.sap_net.specs.Runs.{written, InputsAre, IsCycle, IsRunAfter}
use Rattle.sap_net.specs.Laws.{AreSame, AreSameRuns, SameBefore}
use Rattle.sap_net.proofs.Settle.{CellsAgree}
use Rattle.sap_net.proofs.Unique.{operand_agree, wires_agree}

pub inputs_agree : (is : List Input) (xs : List ℕ) (v w : Valuation) → InputsAre v is xs → InputsAre w is xs → Agree (map (λ i. (i.name, i.width)) is) v w
inputs_agree [] xs v w a b n u h = absurd (cc)
inputs_agree (i ∷ is) [] v w a b n u h = absurd a
inputs_agree (i ∷ is) (x ∷ xs) v w a b n u h =
    agree_more _ v w i.name i.width (inputs_agree is xs v w a.1 b.1) (a.0 ∙ sym b.0) n u h

pub registers_agree : (f g : Register → ℕ) (rs : List Register) (v w : Valuation) → AllByRecursion (λ r. v.value r.name ≡ f r) rs
    → AllByRecursion (λ r. w.value r.name ≡ g r) rs → AllByRecursion (λ r. f r ≡ g r) rs → Agree (map (λ r. (r.name, r.width)) rs) v w
registers_agree f g [] v w a b e n u h = absurd (cc)
registers_agree f g (r ∷ rs) v w a b e n u h =
    agree_more _ v w r.name r.width (registers_agree f g rs v w a.1 b.1 e.1) (a.0 ∙ e.0 ∙ sym b.0) n u h

pub cells_agree : (f g : Memory → ℕ → ℕ) (ms : List Memory) (v w : Valuation) → AllByRecursion (λ m. (i : ℕ) → v.cell m.name i ≡ f m i) ms
    → AllByRecursion (λ m. (i : ℕ) → w.cell m.name i ≡ g m i) ms → AllByRecursion (λ m. (i : ℕ) → f m i ≡ g m i) ms → CellsAgree (map (λ m. (m.name, (m.width, m.depth))) ms) v w
cells_agree f g [] v w a b e n u h i = absurd (cc)
cells_agree f g (m ∷ ms) v w a b e n u h i =
    ⊎_elim
    (λ t. subst (λ (x : Name). v.cell x i ≡ w.cell x i) (equal_of_bytes_eq m.name n t) (a.0 i ∙ e.0 i ∙ sym (b.0 i)))
    (λ q. cells_agree f g ms v w a.1 b.1 e.1 n u (rw q at h) i)
    (cases_Bool (bytes_eq m.name n))

-- what is read at the edge is the same in valuations that agree
nexts_agree : (sc : Scope) (p q : Valuation) → Agree sc p q → (rs : List Register) → AllByRecursion (IsRegister sc) rs
    → AllByRecursion (λ r. operand_value p r.next ≡ operand_value q r.next) rs
nexts_agree sc p q a [] rules = tt
nexts_agree sc p q a (r ∷ rs) rules = (operand_agree sc p q a r.width r.next rules.0.1, nexts_agree sc p q a rs rules.1)

written_agree : (sc : Scope) (ms : Shapes) (p q : Valuation) → Agree sc p q → CellsAgree ms p q → (m : Memory) → IsMemory sc m
    → find ms m.name ≡ Some (m.width, m.depth) → (i : ℕ) → written p m i ≡ written q m i
written_agree sc ms p q a c m rules has i =
    let d = operand_agree sc p q a 1 m.enable rules.enable in
    let e = operand_agree sc p q a rules.bits m.index rules.index in
    let f = operand_agree sc p q a m.width m.value rules.value in
    let g = c m.name _ has i in
    cc

-- each memory is found under its name
abbrev pub AreFound : Shapes → List Memory → Type 0
AreFound shapes ms = AllByRecursion (λ m. find shapes m.name ≡ Some (m.width, m.depth)) ms

found_more : (e : Name × (ℕ × ℕ)) (es : Shapes) (ms : List Memory) → find es e.0 ≡ None → AreFound es ms → AreFound (e ∷ es) ms
found_more e es [] fresh h = tt
found_more e es (m ∷ ms) fresh h = (found_behind es e.0 e.1 fresh m.name _ h.0, found_more e es ms fresh h.1)

pub all_found : (ms : List Memory) → AreMemories (map (λ m. (m.name, (m.width, m.depth))) ms) → AreFound (map (λ m. (m.name, (m.width, m.depth))) ms) ms
all_found [] rules = tt
all_found (m ∷ ms) rules = (found_here m.name _ _, found_more _ _ ms rules.1 (all_found ms rules.2))

all_written_agree : (sc : Scope) (shapes : Shapes) (p q : Valuation) → Agree sc p q → CellsAgree shapes p q → (ms : List Memory)
    → AllByRecursion (IsMemory sc) ms → AreFound shapes ms → AllByRecursion (λ m. (i : ℕ) → written p m i ≡ written q m i) ms
all_written_agree sc shapes p q a c [] rules has = tt
all_written_agree sc shapes p q a c (m ∷ ms) rules has =
    (written_agree sc shapes p q a c m rules.0 has.0, all_written_agree sc shapes p q a c ms rules.1 has.1)

same_from : (n : Net) → IsNetlist n → (f g : Register → ℕ) (c d : Memory → ℕ → ℕ) (p q : Option Valuation) (xs : List ℕ) (v w : Valuation) → IsCycle n p xs v → IsCycle n q xs w
    → AllByRecursion (λ r. v.value r.name ≡ f r) n.registers → AllByRecursion (λ r. w.value r.name ≡ g r) n.registers → AllByRecursion (λ r. f r ≡ g r) n.registers
    → AllByRecursion (λ m. (i : ℕ) → v.cell m.name i ≡ c m i) n.memories
    → AllByRecursion (λ m. (i : ℕ) → w.cell m.name i ≡ d m i) n.memories → AllByRecursion (λ m. (i : ℕ) → c m i ≡ d m i) n.memories
    → AreSame n v w
same_from n rules f g c d p q xs v w a b rv rw' re cv cw ce =
    let cells : CellsAgree (shapes n) v w = cells_agree c d n.memories v w cv cw ce in
    let first : Agree (first_readable n) v w = agree_both _ _ v w (inputs_agree n.inputs xs v w a.given b.given) (registers_agree f g n.registers v w rv rw' re) in
    record {
      value = wires_agree (width_of n) (shapes n) n.wires (first_readable n) v w rules.assigns cells first a.valuation.equations b.valuation.equations;
      cell = cells;
    }

pub cycle_same : (n : Net) → IsNetlist n → (p q : Option Valuation) (xs : List ℕ) (v w : Valuation) → SameBefore n p q → IsCycle n p xs v → IsCycle n q xs w → AreSame n v w
cycle_same n rules None None xs v w s a b =
    same_from n rules (λ r. r.start) (λ r. r.start) (λ m i. m.start) (λ m i. m.start) None None xs v w a b
    a.begins.0 b.begins.0 (all_equal n.registers (λ r. r.start)) a.begins.1 b.begins.1 (all_equal_at n.memories (λ m i. m.start))
cycle_same n rules None (Some q) xs v w s a b = absurd s
cycle_same n rules (Some p) None xs v w s a b = absurd s
cycle_same n rules (Some p) (Some q) xs v w s a b =
    same_from n rules (λ r. operand_value p r.next) (λ r. operand_value q r.next) (written p) (written q) (Some p) (Some q) xs v w a b
    a.begins.0 b.begins.0 (nexts_agree (readable n) p q s.value n.registers rules.nexts)
    a.begins.1 b.begins.1 (all_written_agree (readable n) (shapes n) p q s.value s.cell n.memories rules.writes (all_found n.memories rules.memory_shapes))

pub run_same : (n : Net) → IsNetlist n → (xss : List (List ℕ)) (p q : Option Valuation) (vs ws : List Valuation) → SameBefore n p q
    → IsRunAfter n p xss vs → IsRunAfter n q xss ws → AreSameRuns n vs ws
run_same n rules [] p q [] [] s a b = tt
run_same n rules [] p q [] (w ∷ ws) s a b = absurd b
run_same n rules [] p q (v ∷ vs) ws s a b = absurd a
run_same n rules (xs ∷ xss) p q [] ws s a b = absurd a
run_same n rules (xs ∷ xss) p q (v ∷ vs) [] s a b = absurd b
run_same n rules (xs ∷ xss) p q (v ∷ vs) (w ∷ ws) s a b =
    let same = cycle_same n rules p q xs v w s a.0 b.0 in
    (same, run_same n rules xss (Some v) (Some w) vs ws same a.1 b.1)
