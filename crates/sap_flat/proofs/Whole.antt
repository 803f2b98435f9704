-- Cycles and runs.
use Rattle.sap_lemmas.proofs.Common.{◌≡◌, ℕ, List, [], ◌∷◌, ◌++◌, Option, Some, None, true, false, sym, ap, subst, refl, arith, inl, inr, if◌then◌else◌, bytes_eq, AllByRecursion, AllZip, cases_Bool, bytes_eq_apart_back}
use Rattle.sap_maps.specs.Prelude.{Name, Valuation, find, constant}
use Rattle.sap_net.specs.Prelude.{is_among, AreDistinct, root_seat}
use Rattle.sap_ir.specs.Prelude.{Source, readable, width_of, Going, first_number, register_number, number_at_start, first_cell, cell_at_start, begun, WithinBefore, WritesOnce, variable_names, memory_names, Nested, declarations, has_states, size, seats, seat_width, enter, falls_of, child_writes, PlainWritesOnce, IsPlain}
use Rattle.sap_ir.specs.declared.guarded.Var.{Var}
use Rattle.sap_ir.specs.declared.guarded.MemoryVariable.{MemoryVariable}
use Rattle.sap_ir.specs.Guarded.{ended}
use Rattle.sap_ir.specs.Plain.Writes.{cycle_writes}
use Rattle.sap_ir.specs.Guarded as flat
use Rattle.sap_ir.proofs.Declared.{not_front, not_behind_list}
use Rattle.sap_ir.specs.Plain.Does as plain
use Rattle.sap_flat.specs.Gates.{gate_name}
use Rattle.sap_flat.specs.Flat.{flat_gates, flat_group, flattened}
use Rattle.sap_flat.specs.Same.{SameNumbers, RunsAlike}
use Rattle.sap_flat.proofs.Runs.{Runs, runs_append}
use Rattle.sap_flat.proofs.Alike.{Alike, Zero, seat_found}
use Rattle.sap_flat.proofs.Group.{on_group, gates_on}
use Rattle.sap_flat.proofs.Listed.{register_found, wire_found, each_name}
use Rattle.sap_flat.proofs.Declared.{gate_undeclared, world}

-- how a cycle begins

abbrev pub SameBefore : Nested → Option Valuation → Option Valuation → Type 0
SameBefore p None None = Unit {0}
SameBefore p None (Some w) = ⊥
SameBefore p (Some v) None = ⊥
SameBefore p (Some v) (Some w) = SameNumbers p v w

same_numbers : (f : Var → ℕ) (xs : List Var) → AllByRecursion (λ x. f x ≡ f x) xs
same_numbers f [] = tt
same_numbers f (x ∷ xs) = (refl, same_numbers f xs)

same_cells : (f : MemoryVariable → ℕ → ℕ) (ms : List MemoryVariable) → AllByRecursion (λ m. (i : ℕ) → f m i ≡ f m i) ms
same_cells f [] = tt
same_cells f (m ∷ ms) = (λ i. refl, same_cells f ms)

firsts_same : (p : Nested) (b c : Option Valuation) → SameBefore p b c → AllByRecursion (λ x. first_number b x ≡ first_number c x) p.registers
firsts_same p None None h = same_numbers (λ x. x.start) p.registers
firsts_same p None (Some w) h = absurd h
firsts_same p (Some v) None h = absurd h
firsts_same p (Some v) (Some w) h = h.registers

cells_same : (p : Nested) (b c : Option Valuation) → SameBefore p b c → AllByRecursion (λ m. (i : ℕ) → first_cell b m i ≡ first_cell c m i) p.memories
cells_same p None None h = same_cells (λ m i. m.start) p.memories
cells_same p None (Some w) h = absurd h
cells_same p (Some v) None h = absurd h
cells_same p (Some v) (Some w) h = h.memories

register_same : (b c : Option Valuation) (rs : List Var) → AllByRecursion (λ x. first_number b x ≡ first_number c x) rs → (n : Name)
    → register_number b rs n ≡ register_number c rs n
register_same b c [] a n = refl
register_same b c (x ∷ xs) a n =
    elim (cases_Bool (bytes_eq x.name n)) [ inl t ↦ rw t a.0 | inr f ↦ rw f (register_same b c xs a.1 n) ]

cell_same : (b c : Option Valuation) (ms : List MemoryVariable) → AllByRecursion (λ m. (i : ℕ) → first_cell b m i ≡ first_cell c m i) ms
    → (n : Name) (i : ℕ) → cell_at_start b ms n i ≡ cell_at_start c ms n i
cell_same b c [] a n i = refl
cell_same b c (m ∷ ms) a n i =
    elim (cases_Bool (bytes_eq m.name n)) [ inl t ↦ rw t (a.0 i) | inr f ↦ rw f (cell_same b c ms a.1 n i) ]

number_same : (s t : Source) (b c : Option Valuation) (n : Name) → register_number b s.registers n ≡ register_number c t.registers n
    → (is : List Var) (xs : List ℕ) → number_at_start s b is xs n ≡ number_at_start t c is xs n
number_same s t b c n e [] xs = e
number_same s t b c n e (i ∷ is) [] = e
number_same s t b c n e (i ∷ is) (x ∷ xs) =
    ap (λ (k : ℕ). if bytes_eq i.name n then x else k) (number_same s t b c n e is xs)

begun_alike : (p : Nested) (b c : Option Valuation) → SameBefore p b c → (xs : List ℕ) → Alike (declarations p) (begun (flattened p) b xs) (begun (declarations p) c xs)
begun_alike p b c h xs =
    let cells = cell_same b c p.memories (cells_same p b c h) in
    record {
      value = λ n u f. number_same (flattened p) (declarations p) b c n (register_same b c p.registers (firsts_same p b c h) n) p.inputs xs;
      cells = cells;
      next = cells;
    }

other_number : (b : Option Valuation) (rs : List Var) (n : Name) → is_among n (variable_names rs) ≡ false → register_number b rs n ≡ 0
other_number b [] n h = refl
other_number b (x ∷ xs) n h =
    elim (cases_Bool (bytes_eq n x.name)) [
      | inl t ↦ absurd (let e : true ≡ false = rw t at h in cc)
      | inr f ↦ rw (bytes_eq_apart_back n x.name f) (other_number b xs n (rw f at h))
    ]

other_start : (s : Source) (b : Option Valuation) (n : Name) → register_number b s.registers n ≡ 0 → (is : List Var) (xs : List ℕ)
    → is_among n (variable_names is) ≡ false → number_at_start s b is xs n ≡ 0
other_start s b n e [] xs h = e
other_start s b n e (i ∷ is) [] h = e
other_start s b n e (i ∷ is) (x ∷ xs) h =
    elim (cases_Bool (bytes_eq n i.name)) [
      | inl t ↦ absurd (let q : true ≡ false = rw t at h in cc)
      | inr f ↦ rw (bytes_eq_apart_back n i.name f) (other_start s b n e is xs (rw f at h))
    ]

begun_zero : (p : Nested) → IsPlain p → (b : Option Valuation) (xs : List ℕ) → Zero 0 (begun (flattened p) b xs)
begun_zero p h b xs j l =
    let is = variable_names p.inputs in
    let rs = variable_names p.registers in
    let ws = variable_names p.wires in
    let ms = memory_names p.memories in
    let n = gate_name j in
    let u = gate_undeclared p h j in
    let a = not_front n is (rs ++ (ws ++ ms)) u in
    let c = not_front n rs (ws ++ ms) (not_behind_list n is (rs ++ (ws ++ ms)) u) in
    other_start (flattened p) b n (other_number b p.registers n c) p.inputs xs a

-- one cycle

pub record Cycled (p : Nested) (b c : Option Valuation) (xs : List ℕ) : Type 0 where
  pub end : Going
  pub runs : Runs (width_of (flattened p)) (begun (flattened p) b xs) (flattened p).commands end (cycle_writes p c xs)
  pub alike : Alike (declarations p) end (falls_of (width_of (declarations p)) root_seat p.states (begun (declarations p) c xs))

pub cycled : (p : Nested) → IsPlain p → (b c : Option Valuation) → SameBefore p b c → (xs : List ℕ) → Cycled p b c xs
cycled p h b c sb xs =
    let s = declarations p in
    let vf = width_of (flattened p) in
    let vp = width_of s in
    let w = world p h in
    let f = p.states in
    let g = begun (flattened p) b xs in
    let k = begun s c xs in
    let n = k.now.value root_seat in
    let found : has_states f ≡ true → (u : ℕ) × (find (readable s) root_seat ≡ Some u) = λ t. (seat_width (size f), seat_found s vf vp w root_seat f h.root t) in
    let gd = gates_on s vf vp w (constant 1 1) root_seat (seat_width (size f)) f found 0 n 0 (size f) (λ x i m l q. q) (omega arith) g k
    refl (omega arith) (λ i l. begun_zero p h b xs i (omega arith)) (begun_alike p b c sb xs) in
    let d = on_group s vf vp w (seats p) root_seat f h.root h.states_fine f h.states_fine n 0 (size f) gd.end k (omega arith) gd.gates gd.free gd.alike in
    record {
      end = d.end;
      runs = runs_append vf g gd.end d.end (flat_gates (constant 1 1) root_seat (seat_width (size f)) f 0 0)
          (flat_group root_seat f f 0 (size f)).commands [] (child_writes vp (enter root_seat f) f n k) gd.runs d.runs;
      alike = d.alike;
    }

each_memory : (g h : Going) → ((m : Name) (i : ℕ) → g.next m i ≡ h.next m i) → (ms : List MemoryVariable) → AllByRecursion (λ m. (i : ℕ) → g.next m.name i ≡ h.next m.name i) ms
each_memory g h a [] = tt
each_memory g h a (m ∷ ms) = (a m.name, each_memory g h a ms)

ended_same : (p : Nested) (g h : Going) → Alike (declarations p) g h → SameNumbers p (ended g) (ended h)
ended_same p g h a =
    record {
      registers = each_name p.registers (λ n. g.now.value n ≡ h.now.value n) (λ n t. let r = register_found (declarations p) n t in a.value n r.0 r.1);
      wires = each_name p.wires (λ n. g.now.value n ≡ h.now.value n) (λ n t. let r = wire_found (declarations p) n t in a.value n r.0 r.1);
      memories = each_memory g h a.next p.memories;
    }

cycle_same : (p : Nested) → IsPlain p → (b c : Option Valuation) → SameBefore p b c → (xs : List ℕ) → SameNumbers p (flat.cycle (flattened p) b xs) (plain.cycle p c xs)
cycle_same p h b c sb xs =
    let d = cycled p h b c sb xs in
    let k = falls_of (width_of (declarations p)) root_seat p.states (begun (declarations p) c xs) in
    subst (λ (g : Going). SameNumbers p (ended g) (ended k)) (sym d.runs.ends) (ended_same p d.end k d.alike)

-- runs

runs_same : (p : Nested) → IsPlain p → (b c : Option Valuation) → SameBefore p b c → (xss : List (List ℕ))
    → AllZip (SameNumbers p) (flat.run_after (flattened p) b xss) (plain.run_after p c xss)
runs_same p h b c sb [] = tt
runs_same p h b c sb (xs ∷ xss) =
    let e = cycle_same p h b c sb xs in
    (e, runs_same p h (Some (flat.cycle (flattened p) b xs)) (Some (plain.cycle p c xs)) e xss)

pub runs_alike : (p : Nested) → IsPlain p → RunsAlike p (flattened p)
runs_alike p h xss = runs_same p h None None tt xss

-- writes

same_before : (p : Nested) (b : Option Valuation) → SameBefore p b b
same_before p None = tt
same_before p (Some v) =
    record {
      registers = same_numbers (λ x. v.value x.name) p.registers;
      wires = same_numbers (λ x. v.value x.name) p.wires;
      memories = same_cells (λ m i. v.cell m.name i) p.memories;
    }

within_before : (p : Nested) (b : Option Valuation) → WithinBefore (flattened p) b → WithinBefore (declarations p) b
within_before p None w = tt
within_before p (Some v) w = record { registers = w.registers; memories = w.memories }

pub writes_once : (p : Nested) → IsPlain p → PlainWritesOnce p → WritesOnce (flattened p)
writes_once p h o b numbers w f =
    let d = cycled p h b b (same_before p b) numbers in
    subst AreDistinct (sym d.runs.writes) (o b numbers (within_before p b w) f)
