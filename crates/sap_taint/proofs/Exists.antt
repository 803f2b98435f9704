-- Every run has its taint.
use Rattle.sap_lemmas.proofs.Common.{◌≡◌, ℕ, List, [], ◌∷◌, ◌++◌, map, Option, Some, None, sym, ◌∙◌, ap, refl, unwrap_or, if◌then◌else◌, bytes_eq, option_map, AllByRecursion, bytes_eq_same, bytes_eq_apart_back}
use Rattle.sap_maps.specs.Prelude.{Name, Valuation, Scope, find}
use Rattle.sap_maps.proofs.Scopes.{found_here, found_behind, apart, not_first, not_behind}
use Rattle.sap_net.specs.Prelude.{Net, Shapes, AreValues, AreMemories, AreWires, IsRight, first_readable, shapes, IsNetlist, InputsAre, IsCycle, IsRunAfter}
use Rattle.sap_net.specs.declared.parts.Input.{Input}
use Rattle.sap_net.specs.declared.parts.Wire.{Wire}
use Rattle.sap_net.specs.declared.parts.Right.{Right}
use Rattle.sap_net.specs.declared.parts.Register.{Register}
use Rattle.sap_net.specs.declared.parts.Memory.{Memory}
use Rattle.sap_net.proofs.InputLemmas.{past_inputs}
use Rattle.sap_taint.specs.Tags.{Tags, operand_tag, right_tag, TagsHold, written_tag}
use Rattle.sap_taint.specs.Runs.{TaggedNumber, numbers_of, TaggedValuation, TagsBegin, TagsGiven, IsTaintedCycle, IsTaintedRunAfter}
use Rattle.sap_taint.specs.Alike.{Equal}
use Rattle.sap_taint.specs.Laws.{SomeTaint}
use Rattle.sap_taint.proofs.Keepers.{equal_keeps}
use Rattle.sap_taint.proofs.Related.{right_related}

-- the tags of some entries, and 0 elsewhere
abbrev from_entries : (es fs : List (Name × ℕ)) → Tags
from_entries es fs = record { value = λ x. unwrap_or (find es x) 0; memory = λ m. unwrap_or (find fs m) 0 }

abbrev given : List Input → List TaggedNumber → List (Name × ℕ)
given (i ∷ is) (x ∷ xs) = (i.name, x.tag) ∷ given is xs
given _ _ = []

inputs_kept : (is : List Input) (xs : List TaggedNumber) (sd : Scope) (m : Name) (x : ℕ) (es fs : List (Name × ℕ)) → find (map (λ i. (i.name, i.width)) is ++ sd) m ≡ None
    → TagsGiven (from_entries es fs) is xs → TagsGiven (from_entries ((m, x) ∷ es) fs) is xs
inputs_kept [] [] sd m x es fs h a = tt
inputs_kept [] (y ∷ xs) sd m x es fs h a = a
inputs_kept (i ∷ is) [] sd m x es fs h a = a
inputs_kept (i ∷ is) (y ∷ xs) sd m x es fs h a =
    (rw (not_first (i.name, i.width) _ m h) a.0, inputs_kept is xs sd m x es fs (not_behind (i.name, i.width) _ m h) a.1)

registers_kept : (f : Register → ℕ) (rs : List Register) (m : Name) (x : ℕ) (es fs : List (Name × ℕ)) → find {X = ℕ} (map (λ r. (r.name, r.width)) rs) m ≡ None
    → AllByRecursion (λ r. (from_entries es fs).value r.name ≡ f r) rs → AllByRecursion (λ r. (from_entries ((m, x) ∷ es) fs).value r.name ≡ f r) rs
registers_kept f [] m x es fs h a = tt
registers_kept f (r ∷ rs) m x es fs h a =
    (rw (not_first (r.name, r.width) _ m h) a.0, registers_kept f rs m x es fs (not_behind (r.name, r.width) _ m h) a.1)

registers_hold : (ms : Shapes) (f : Register → ℕ) (rs : List Register) (fs : List (Name × ℕ)) → AreValues ms (map (λ r. (r.name, r.width)) rs)
    → AllByRecursion (λ r. (from_entries (map (λ r. (r.name, f r)) rs) fs).value r.name ≡ f r) rs
registers_hold ms f [] fs rules = tt
registers_hold ms f (r ∷ rs) fs rules =
    (rw (bytes_eq_same r.name) refl, registers_kept f rs r.name (f r) _ fs rules.1 (registers_hold ms f rs fs rules.3))

first_hold : (ms : Shapes) (f : Register → ℕ) (is : List Input) (xs : List TaggedNumber) (rs : List Register) (fs : List (Name × ℕ)) (v : Valuation)
    → AreValues ms (map (λ i. (i.name, i.width)) is ++ map (λ r. (r.name, r.width)) rs) → InputsAre v is (numbers_of xs)
    → let t = from_entries (given is xs ++ map (λ r. (r.name, f r)) rs) fs in TagsGiven t is xs × AllByRecursion (λ r. t.value r.name ≡ f r) rs
first_hold ms f [] [] rs fs v rules fit = (tt, registers_hold ms f rs fs rules)
first_hold ms f [] (x ∷ xs) rs fs v rules fit = absurd fit
first_hold ms f (i ∷ is) [] rs fs v rules fit = absurd fit
first_hold ms f (i ∷ is) (x ∷ xs) rs fs v rules fit =
    let a = first_hold ms f is xs rs fs v rules.3 fit.1 in (
      (rw (bytes_eq_same i.name) refl, inputs_kept is xs (map (λ r. (r.name, r.width)) rs) i.name x.tag _ fs rules.1 a.0),
      registers_kept f rs i.name x.tag _ fs (past_inputs is _ i.name rules.1) a.1,
    )

memories_kept : (f : Memory → ℕ) (ms : List Memory) (m : Name) (x : ℕ) (es fs : List (Name × ℕ)) → find {X = ℕ × ℕ} (map (λ k. (k.name, (k.width, k.depth))) ms) m ≡ None
    → AllByRecursion (λ k. (from_entries es fs).memory k.name ≡ f k) ms → AllByRecursion (λ k. (from_entries es ((m, x) ∷ fs)).memory k.name ≡ f k) ms
memories_kept f [] m x es fs h a = tt
memories_kept f (k ∷ ms) m x es fs h a =
    (rw (not_first (k.name, (k.width, k.depth)) _ m h) a.0, memories_kept f ms m x es fs (not_behind (k.name, (k.width, k.depth)) _ m h) a.1)

memories_hold : (f : Memory → ℕ) (ms : List Memory) (es : List (Name × ℕ)) → AreMemories (map (λ m. (m.name, (m.width, m.depth))) ms)
    → AllByRecursion (λ k. (from_entries es (map (λ m. (m.name, f m)) ms)).memory k.name ≡ f k) ms
memories_hold f [] es rules = tt
memories_hold f (m ∷ ms) es rules =
    (rw (bytes_eq_same m.name) refl, memories_kept f ms m.name (f m) es _ rules.1 (memories_hold f ms es rules.2))

-- the tags of wires, put one after another
abbrev set_tag : Tags → Name → ℕ → Tags
set_tag t n x = record { value = λ m. if bytes_eq m n then x else t.value m; memory = t.memory }

abbrev settle : Tags → List Wire → Tags
settle t [] = t
settle t (w ∷ ws) = settle (set_tag t w.name (right_tag t w.right)) ws

settle_keeps : (ms : Shapes) (ws : List Wire) (sc : Scope) (t : Tags) → AreWires ms sc ws → (n : Name) (u : ℕ) → find sc n ≡ Some u → t.value n ≡ (settle t ws).value n
settle_keeps ms [] sc t rules n u h = refl
settle_keeps ms (x ∷ ws) sc t rules n u h =
    rw (bytes_eq_apart_back x.name n (apart sc x.name n u rules.1 h)) refl
    ∙ settle_keeps ms ws ((x.name, x.width) ∷ sc) (set_tag t x.name (right_tag t x.right)) rules.4 n u (found_behind sc x.name x.width rules.1 n u h)

settle_memory : (ws : List Wire) (t : Tags) → t.memory ≡ (settle t ws).memory
settle_memory [] t = refl
settle_memory (x ∷ ws) t = settle_memory ws (set_tag t x.name (right_tag t x.right))

-- tags that agree on what is read give one tag
right_tag_agrees : (ms : Shapes) (sc : Scope) (t s : Tags) → ((n : Name) (u : ℕ) → find sc n ≡ Some u → t.value n ≡ s.value n) → t.memory ≡ s.memory
    → (u : ℕ) (r : Right) → IsRight ms sc u r → right_tag t r ≡ right_tag s r
right_tag_agrees ms sc t s a b u r h =
    let v : Valuation = record { value = λ _. 0; cell = λ _ _. 0 } in
    (right_related Equal equal_keeps (λ _. 0) ms sc (record { numbers = v; tags = t }) (record { numbers = v; tags = s })
    (λ n u f. (refl, a n u f)) (λ m x f. (λ i. refl, ap (λ g. g m) b)) u r h).1

settle_holds : (ms : Shapes) (ws : List Wire) (sc : Scope) (t : Tags) → AreWires ms sc ws → TagsHold (settle t ws) ws
settle_holds ms [] sc t rules = tt
settle_holds ms (x ∷ ws) sc t rules =
    let r = right_tag t x.right in
    let t' = set_tag t x.name r in
    let end = settle t' ws in
    let here : t'.value x.name ≡ r = rw (bytes_eq_same x.name) refl in (
      sym (settle_keeps ms ws ((x.name, x.width) ∷ sc) t' rules.4 x.name x.width (found_here x.name x.width sc)) ∙ here
          ∙ right_tag_agrees ms sc t end (settle_keeps ms (x ∷ ws) sc t rules) (settle_memory (x ∷ ws) t) x.width x.right rules.3,
      settle_holds ms ws ((x.name, x.width) ∷ sc) t' rules.4,
    )

abbrev Kept : Scope → Tags → Tags → Type 0
Kept sc t s = (n : Name) (u : ℕ) → find sc n ≡ Some u → t.value n ≡ s.value n

kept_less : (e : Name × ℕ) (sc : Scope) (t s : Tags) → find sc e.0 ≡ None → Kept (e ∷ sc) t s → Kept sc t s
kept_less e sc t s fresh a n u h = a n u (found_behind sc e.0 e.1 fresh n u h)

inputs_along : (ms : Shapes) (is : List Input) (xs : List TaggedNumber) (sd : Scope) (t s : Tags)
    → AreValues ms (map (λ i. (i.name, i.width)) is ++ sd) → Kept (map (λ i. (i.name, i.width)) is ++ sd) t s
    → TagsGiven t is xs → TagsGiven s is xs
inputs_along ms [] [] sd t s rules a h = tt
inputs_along ms [] (x ∷ xs) sd t s rules a h = h
inputs_along ms (i ∷ is) [] sd t s rules a h = h
inputs_along ms (i ∷ is) (x ∷ xs) sd t s rules a h = (
  sym (a i.name i.width (found_here i.name i.width _)) ∙ h.0,
  inputs_along ms is xs sd t s rules.3 (kept_less (i.name, i.width) _ t s rules.1 a) h.1,
)

kept_behind : (ms : Shapes) (is : List Input) (sd : Scope) (t s : Tags) → AreValues ms (map (λ i. (i.name, i.width)) is ++ sd) → Kept (map (λ i. (i.name, i.width)) is ++ sd) t s
    → AreValues ms sd × Kept sd t s
kept_behind ms [] sd t s rules a = (rules, a)
kept_behind ms (i ∷ is) sd t s rules a = kept_behind ms is sd t s rules.3 (kept_less (i.name, i.width) _ t s rules.1 a)

registers_along : (ms : Shapes) (f : Register → ℕ) (rs : List Register) (t s : Tags) → AreValues ms (map (λ r. (r.name, r.width)) rs) → Kept (map (λ r. (r.name, r.width)) rs) t s
    → AllByRecursion (λ r. t.value r.name ≡ f r) rs → AllByRecursion (λ r. s.value r.name ≡ f r) rs
registers_along ms f [] t s rules a h = tt
registers_along ms f (r ∷ rs) t s rules a h = (
  sym (a r.name r.width (found_here r.name r.width _)) ∙ h.0,
  registers_along ms f rs t s rules.3 (kept_less (r.name, r.width) _ t s rules.1 a) h.1,
)

memories_along : (f : Memory → ℕ) (ms : List Memory) (t s : Tags) → t.memory ≡ s.memory → AllByRecursion (λ m. t.memory m.name ≡ f m) ms
    → AllByRecursion (λ m. s.memory m.name ≡ f m) ms
memories_along f [] t s e h = tt
memories_along f (m ∷ ms) t s e h = (sym (ap (λ g. g m.name) e) ∙ h.0, memories_along f ms t s e h.1)

-- the tags that a register and a memory begin a cycle with
abbrev first_tag : Option TaggedValuation → Register → ℕ
first_tag None r = 0
first_tag (Some p) r = operand_tag p.tags r.next

abbrev first_memory : Option TaggedValuation → Memory → ℕ
first_memory None m = 0
first_memory (Some p) m = written_tag p.numbers p.tags m

begins_from : (n : Net) (p : Option TaggedValuation) (t : Tags) → AllByRecursion (λ r. t.value r.name ≡ first_tag p r) n.registers
    → AllByRecursion (λ m. t.memory m.name ≡ first_memory p m) n.memories → TagsBegin n p t
begins_from n None t a b = (a, b)
begins_from n (Some p) t a b = (a, b)

pub cycle_tainted : (n : Net) → IsNetlist n → (p : Option TaggedValuation) (xs : List TaggedNumber) (v : Valuation) → IsCycle n (option_map (λ c. c.numbers) p) (numbers_of xs) v
    → (t : Tags) × IsTaintedCycle n p xs (record { numbers = v; tags = t })
cycle_tainted n rules p xs v a =
    let fs = map (λ m. (m.name, first_memory p m)) n.memories in
    let es = given n.inputs xs ++ map (λ r. (r.name, first_tag p r)) n.registers in
    let t = from_entries es fs in
    let s = settle t n.wires in
    let first = first_hold (shapes n) (first_tag p) n.inputs xs n.registers fs v rules.values a.given in
    let kept : Kept (first_readable n) t s = settle_keeps (shapes n) n.wires (first_readable n) t rules.assigns in
    let behind = kept_behind (shapes n) n.inputs _ t s rules.values kept in (
      s,
      record {
        runs = a;
        begins = begins_from n p s (registers_along (shapes n) (first_tag p) n.registers t s behind.0 behind.1 first.1)
            (memories_along (first_memory p) n.memories t s (settle_memory n.wires t) (memories_hold (first_memory p) n.memories es rules.memory_shapes));
        given = inputs_along (shapes n) n.inputs xs _ t s rules.values kept first.0;
        wires = settle_holds (shapes n) n.wires (first_readable n) t rules.assigns;
      },
    )

run_tainted : (n : Net) → IsNetlist n → (xss : List (List TaggedNumber)) (p : Option TaggedValuation) (vs : List Valuation)
    → IsRunAfter n (option_map (λ c. c.numbers) p) (map numbers_of xss) vs
    → (cs : List TaggedValuation) × IsTaintedRunAfter n p xss cs × (map (λ c. c.numbers) cs ≡ vs)
run_tainted n rules [] p [] a = ([], tt, refl)
run_tainted n rules [] p (v ∷ vs) a = absurd a
run_tainted n rules (xs ∷ xss) p [] a = absurd a
run_tainted n rules (xs ∷ xss) p (v ∷ vs) a =
    let c = cycle_tainted n rules p xs v a.0 in
    let here : TaggedValuation = record { numbers = v; tags = c.0 } in
    let r = run_tainted n rules xss (Some here) vs a.1 in
    (here ∷ r.0, (c.1, r.1), ap (λ ws. v ∷ ws) r.2)

pub some_taint_of : (n : Net) → IsNetlist n → SomeTaint n
some_taint_of n rules xss vs a = run_tainted n rules xss None vs a
