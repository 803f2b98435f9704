-- A run exists on each list of inputs that fit.
use Rattle.sap_lemmas.proofs.Common.{◌≡◌, ℕ, List, [], ◌∷◌, ◌++◌, map, Option, Some, None, sym, ◌∙◌, subst, refl, false, unwrap_or, bytes_eq, AllByRecursion, bytes_eq_same}
use Rattle.sap_net.proofs.InputLemmas.{past_inputs}
use Rattle.sap_maps.specs.Prelude.{Name, Valuation, Scope, find, Agree}
use Rattle.sap_maps.proofs.Scopes.{found_here, not_first, not_behind, agree_less}
use Rattle.sap_net.specs.declared.parts.Input.{Input}
use Rattle.sap_net.specs.declared.parts.Register.{Register}
use Rattle.sap_net.specs.declared.parts.Memory.{Memory}
use Rattle.sap_net.specs.Net.{Net}
use Rattle.sap_net.specs.Values.{operand_value, Holds}
use Rattle.sap_net.specs.Rules.{Shapes, AreValues, AreMemories}
use Rattle.sap_net.specs.IsNetlist.{first_readable, shapes, width_of, IsNetlist}
use Rattle.sap_net.specs.Runs.{written, Begins, InputsFit, InputsAre, AllFit, IsCycle, IsRunAfter}
use Rattle.sap_net.specs.Laws.{WithinBefore}
use Rattle.sap_net.proofs.Settle.{settle, settle_agrees, settle_cell}
use Rattle.sap_net.proofs.Unique.{settle_holds}
use Rattle.sap_net.proofs.Within.{cycle_within}

-- a valuation with the numbers of some entries, and 0 elsewhere
abbrev from_entries : List (Name × ℕ) → List (Name × (ℕ → ℕ)) → Valuation
from_entries es fs = record { value = λ n. unwrap_or (find es n) 0; cell = λ m. unwrap_or (find fs m) (λ _. 0) }

abbrev given : List Input → List ℕ → List (Name × ℕ)
given (i ∷ is) (x ∷ xs) = (i.name, x) ∷ given is xs
given _ _ = []

-- one more entry changes no other name
at_other : (m : Name) (x : ℕ) (es : List (Name × ℕ)) (fs : List (Name × (ℕ → ℕ))) (n : Name) → bytes_eq m n ≡ false
    → (from_entries ((m, x) ∷ es) fs).value n ≡ (from_entries es fs).value n
at_other m x es fs n f = rw f

at_same : (m : Name) (x : ℕ) (es : List (Name × ℕ)) (fs : List (Name × (ℕ → ℕ))) → (from_entries ((m, x) ∷ es) fs).value m ≡ x
at_same m x es fs = rw (bytes_eq_same m)

inputs_kept : (is : List Input) (xs : List ℕ) (sd : Scope) (m : Name) (x : ℕ) (es : List (Name × ℕ)) (fs : List (Name × (ℕ → ℕ)))
    → find (map (λ i. (i.name, i.width)) is ++ sd) m ≡ None → InputsAre (from_entries es fs) is xs → InputsAre (from_entries ((m, x) ∷ es) fs) is xs
inputs_kept [] [] sd m x es fs h a = tt
inputs_kept [] (y ∷ xs) sd m x es fs h a = a
inputs_kept (i ∷ is) [] sd m x es fs h a = a
inputs_kept (i ∷ is) (y ∷ xs) sd m x es fs h a = (
  at_other m x es fs i.name (not_first (i.name, i.width) _ m h) ∙ a.0,
  inputs_kept is xs sd m x es fs (not_behind (i.name, i.width) _ m h) a.1,
)

registers_kept : (f : Register → ℕ) (rs : List Register) (m : Name) (x : ℕ) (es : List (Name × ℕ)) (fs : List (Name × (ℕ → ℕ)))
    → find (map (λ r. (r.name, r.width)) rs) m ≡ None → AllByRecursion (λ r. (from_entries es fs).value r.name ≡ f r) rs
    → AllByRecursion (λ r. (from_entries ((m, x) ∷ es) fs).value r.name ≡ f r) rs
registers_kept f [] m x es fs h a = tt
registers_kept f (r ∷ rs) m x es fs h a = (
  at_other m x es fs r.name (not_first (r.name, r.width) _ m h) ∙ a.0,
  registers_kept f rs m x es fs (not_behind (r.name, r.width) _ m h) a.1,
)

registers_hold : (ms : Shapes) (f : Register → ℕ) (rs : List Register) (fs : List (Name × (ℕ → ℕ)))
    → AreValues ms (map (λ r. (r.name, r.width)) rs) → AllByRecursion (λ r. (from_entries (map (λ r. (r.name, f r)) rs) fs).value r.name ≡ f r) rs
registers_hold ms f [] fs rules = tt
registers_hold ms f (r ∷ rs) fs rules = (
  at_same r.name (f r) _ fs,
  registers_kept f rs r.name (f r) _ fs rules.1 (registers_hold ms f rs fs rules.3),
)

first_hold : (ms : Shapes) (f : Register → ℕ) (is : List Input) (xs : List ℕ) (rs : List Register) (fs : List (Name × (ℕ → ℕ)))
    → AreValues ms (map (λ i. (i.name, i.width)) is ++ map (λ r. (r.name, r.width)) rs) → InputsFit is xs → let v =
    from_entries (given is xs ++ map (λ r. (r.name, f r)) rs) fs in InputsAre v is xs × AllByRecursion (λ r. v.value r.name ≡ f r) rs
first_hold ms f [] [] rs fs rules fit = (tt, registers_hold ms f rs fs rules)
first_hold ms f [] (x ∷ xs) rs fs rules fit = absurd fit
first_hold ms f (i ∷ is) [] rs fs rules fit = absurd fit
first_hold ms f (i ∷ is) (x ∷ xs) rs fs rules fit =
    let a = first_hold ms f is xs rs fs rules.3 fit.1 in (
      (at_same i.name x _ fs, inputs_kept is xs (map (λ r. (r.name, r.width)) rs) i.name x _ fs rules.1 a.0),
      registers_kept f rs i.name x _ fs (past_inputs is _ i.name rules.1) a.1,
    )

cells_kept : (f : Memory → ℕ → ℕ) (ms : List Memory) (m : Name) (x : ℕ → ℕ) (es : List (Name × ℕ)) (fs : List (Name × (ℕ → ℕ)))
    → find {X = ℕ × ℕ} (map (λ k. (k.name, (k.width, k.depth))) ms) m ≡ None
    → AllByRecursion (λ k. (i : ℕ) → (from_entries es fs).cell k.name i ≡ f k i) ms → AllByRecursion (λ k. (i : ℕ) → (from_entries es ((m, x) ∷ fs)).cell k.name i ≡ f k i) ms
cells_kept f [] m x es fs h a = tt
cells_kept f (k ∷ ms) m x es fs h a = (
  (λ i. rw (not_first (k.name, (k.width, k.depth)) _ m h) (a.0 i)),
  cells_kept f ms m x es fs (not_behind (k.name, (k.width, k.depth)) _ m h) a.1,
)

cells_hold : (f : Memory → ℕ → ℕ) (ms : List Memory) (es : List (Name × ℕ)) → AreMemories (map (λ m. (m.name, (m.width, m.depth))) ms)
    → AllByRecursion (λ k. (i : ℕ) → (from_entries es (map (λ m. (m.name, f m)) ms)).cell k.name i ≡ f k i) ms
cells_hold f [] es rules = tt
cells_hold f (m ∷ ms) es rules = (
  (λ i. rw (bytes_eq_same m.name) refl),
  cells_kept f ms m.name (f m) es _ rules.1 (cells_hold f ms es rules.2),
)

-- the wires' values leave inputs, registers and memories alone
inputs_along : (is : List Input) (xs : List ℕ) (sd : Scope) (v w : Valuation) → Agree (map (λ i. (i.name, i.width)) is ++ sd) v w → InputsAre v is xs → InputsAre w is xs
inputs_along [] [] sd v w a h = tt
inputs_along [] (x ∷ xs) sd v w a h = h
inputs_along (i ∷ is) [] sd v w a h = h
inputs_along (i ∷ is) (x ∷ xs) sd v w a h = (
  sym (a i.name i.width (found_here i.name i.width _)) ∙ h.0,
  inputs_along is xs sd v w (agree_less (i.name, i.width) _ v w a) h.1,
)

registers_along : (f : Register → ℕ) (rs : List Register) (v w : Valuation) → Agree (map (λ r. (r.name, r.width)) rs) v w
    → AllByRecursion (λ r. v.value r.name ≡ f r) rs → AllByRecursion (λ r. w.value r.name ≡ f r) rs
registers_along f [] v w a h = tt
registers_along f (r ∷ rs) v w a h = (
  sym (a r.name r.width (found_here r.name r.width _)) ∙ h.0,
  registers_along f rs v w (agree_less (r.name, r.width) _ v w a) h.1,
)

agree_behind : (is : List Input) (sd : Scope) (v w : Valuation) → Agree (map (λ i. (i.name, i.width)) is ++ sd) v w → Agree sd v w
agree_behind [] sd v w a = a
agree_behind (i ∷ is) sd v w a = agree_behind is sd v w (agree_less (i.name, i.width) _ v w a)

cells_along : (f : Memory → ℕ → ℕ) (ms : List Memory) (v w : Valuation) → v.cell ≡ w.cell
    → AllByRecursion (λ m. (i : ℕ) → v.cell m.name i ≡ f m i) ms → AllByRecursion (λ m. (i : ℕ) → w.cell m.name i ≡ f m i) ms
cells_along f ms v w e h = subst (λ (c : Name → ℕ → ℕ). AllByRecursion (λ m. (i : ℕ) → c m.name i ≡ f m i) ms) e h

-- what a register and a memory begin a cycle with
abbrev first_value : Option Valuation → Register → ℕ
first_value None r = r.start
first_value (Some p) r = operand_value p r.next

abbrev first_cell : Option Valuation → Memory → ℕ → ℕ
first_cell None m i = m.start
first_cell (Some p) m i = written p m i

begins_from : (n : Net) (p : Option Valuation) (v : Valuation) → AllByRecursion (λ r. v.value r.name ≡ first_value p r) n.registers
    → AllByRecursion (λ m. (i : ℕ) → v.cell m.name i ≡ first_cell p m i) n.memories → Begins n p v
begins_from n None v a b = (a, b)
begins_from n (Some p) v a b = (a, b)

pub cycle_exists : (n : Net) → IsNetlist n → (p : Option Valuation) (xs : List ℕ) → WithinBefore n p → InputsFit n.inputs xs → (v : Valuation) × IsCycle n p xs v
cycle_exists n rules p xs b fit =
    let fs : List (Name × (ℕ → ℕ)) = map (λ m. (m.name, first_cell p m)) n.memories in
    let es : List (Name × ℕ) = given n.inputs xs ++ map (λ r. (r.name, first_value p r)) n.registers in
    let v = from_entries es fs in
    let w = settle (width_of n) v n.wires in
    let first = first_hold (shapes n) (first_value p) n.inputs xs n.registers fs rules.values fit in
    let same : Agree (first_readable n) v w = settle_agrees (width_of n) (shapes n) n.wires (first_readable n) v rules.assigns in
    let begins : Begins n p w = begins_from n p w
    (registers_along (first_value p) n.registers v w (agree_behind n.inputs _ v w same) first.1)
    (cells_along (first_cell p) n.memories v w (settle_cell (width_of n) n.wires v) (cells_hold (first_cell p) n.memories es rules.memory_shapes)) in
    let given : InputsAre w n.inputs xs = inputs_along n.inputs xs _ v w same first.0 in
    let holds : Holds (width_of n) w n.wires = settle_holds (width_of n) (shapes n) n.wires (first_readable n) v rules.assigns in (
      w,
      record {
        begins = begins;
        given = given;
        valuation = record { within = cycle_within n rules p xs w b fit begins given holds; equations = holds };
      },
    )

pub run_exists : (n : Net) → IsNetlist n → (xss : List (List ℕ)) (p : Option Valuation) → WithinBefore n p → AllFit n.inputs xss → (vs : List Valuation) × IsRunAfter n p xss vs
run_exists n rules [] p b fit = ([], tt)
run_exists n rules (xs ∷ xss) p b fit =
    let c = cycle_exists n rules p xs b fit.0 in
    let r = run_exists n rules xss (Some c.0) c.1.valuation.within fit.1 in
    (c.0 ∷ r.0, (c.1, r.1))
