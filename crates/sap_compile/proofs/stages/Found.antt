-- What is declared under a name, from one program to the next.
use Rattle.sap_lemmas.proofs.Common.{◌≡◌, ℕ, List, [], ◌∷◌, ◌++◌, map, filter, true, Some, inl, inr, refl, sym, ap, subst, bytes_eq, option_map, AllByRecursion, cases_Bool, equal_of_bytes_eq}
use Rattle.sap_maps.specs.Prelude.{Name, Scope, find}
use Rattle.sap_net.specs.Prelude.{is_among, Shapes, AllFit, InputsFit}
use Rattle.sap_net.specs.declared.parts.Input.{Input}
use Rattle.sap_net.specs.declared.parts.Wire.{Wire}
use Rattle.sap_net.specs.declared.parts.Memory.{Memory}
use Rattle.sap_ir.specs.Writes.{NumbersFit}
use Rattle.sap_ir.specs.declared.guarded.Var.{Var}
use Rattle.sap_ir.specs.declared.guarded.MemoryVariable.{MemoryVariable}
use Rattle.sap_tagged.specs.Law.{AllNumbersFit}

abbrev pub as_input : Var → Input
as_input x = record { name = x.name; width = x.width }

-- the width and the start of a register
abbrev pub Shape : Type 0
Shape = ℕ × ℕ

-- the width, the depth and the start of a memory, under its name
abbrev pub Stored : Type 0
Stored = Name × (ℕ × (ℕ × ℕ))

abbrev pub memory_stored : Memory → Stored
memory_stored m = (m.name, (m.width, (m.depth, m.start)))

abbrev pub store_stored : MemoryVariable → Stored
store_stored m = (m.name, (m.width, (m.depth, m.start)))

abbrev pub variable_widths : List Var → Scope
variable_widths xs = map (λ x. (x.name, x.width)) xs

abbrev pub wire_widths : List Wire → Scope
wire_widths ws = map (λ w. (w.name, w.width)) ws

-- what holds of all, of what is found
pub at_found : {X Y : Type 0} (P : Name → X → Type 0) (name : Y → Name) (of : Y → X) (ys : List Y) → AllByRecursion (λ y. P (name y) (of y)) ys
    → (n : Name) (x : X) → find (map (λ y. (name y, of y)) ys) n ≡ Some x → P n x
at_found P name of [] a n x h = absurd (cc)
at_found {X} P name of (y ∷ ys) a n x h = elim (cases_Bool (bytes_eq (name y) n)) [
  | inl t ↦ (
      let e : Some (of y) ≡ Some x = rw t at h in
      let i : of y ≡ x = cc in
      subst (λ (m : Name). P m x) (equal_of_bytes_eq (name y) n t) (subst (λ (z : X). P (name y) z) i a.0)
      )
  | inr f ↦ at_found P name of ys a.1 n x (rw f at h)
]

-- inputs

pub inputs_declared : (xs : List Var) → map {B = Name × ℕ} (λ i. (i.name, i.width)) (map as_input xs) ≡ variable_widths xs
inputs_declared [] = refl
inputs_declared (x ∷ xs) = ap (λ (sc : Scope). (x.name, x.width) ∷ sc) (inputs_declared xs)

-- wires

pub found_front : (xs ys : List Var) (n : Name) (u : ℕ) → find (variable_widths xs) n ≡ Some u → find (variable_widths (xs ++ ys)) n ≡ Some u
found_front [] ys n u h = absurd (cc)
found_front (x ∷ xs) ys n u h = elim (cases_Bool (bytes_eq x.name n)) [ inl t ↦ rw t (rw t at h) | inr f ↦ rw f (found_front xs ys n u (rw f at h)) ]

-- a variable that is a port
pub listed_variable : (ps : List Name) (xs : List Var) (n : Name) (u : ℕ) → find (variable_widths xs) n ≡ Some u → is_among n ps ≡ true
    → find (variable_widths (filter (λ x. is_among x.name ps) xs)) n ≡ Some u
listed_variable ps [] n u h p = absurd (cc)
listed_variable ps (x ∷ xs) n u h p = elim (cases_Bool (bytes_eq x.name n)) [
  | inl t ↦ (
      let l : is_among x.name ps ≡ true = subst (λ (m : Name). is_among m ps ≡ true) (sym (equal_of_bytes_eq x.name n t)) p in
      rw (l, t) (rw t at h)
      )
  | inr f ↦ (
      let r = listed_variable ps xs n u (rw f at h) p in
      elim (cases_Bool (is_among x.name ps)) [ inl l ↦ rw (l, f) r | inr l ↦ rw l r ]
      )
]

-- registers and memories

pub width_found : {Y : Type 0} (name : Y → Name) (width start : Y → ℕ) (ys : List Y) (n : Name)
    → find {X = ℕ} (map (λ y. (name y, width y)) ys) n ≡ option_map (λ (q : Shape). q.0) (find {X = Shape} (map (λ y. (name y, (width y, start y))) ys) n)
width_found name width start [] n = refl
width_found name width start (y ∷ ys) n = elim (cases_Bool (bytes_eq (name y) n)) [ inl t ↦ rw t refl | inr f ↦ rw f (width_found name width start ys n) ]

-- without its start
abbrev pub shape_of : Stored → Name × (ℕ × ℕ)
shape_of q = (q.0, (q.1.0, q.1.1.0))

pub memory_shapes : (ms : List Memory) → map shape_of (map memory_stored ms) ≡ map (λ m. (m.name, (m.width, m.depth))) ms
memory_shapes [] = refl
memory_shapes (m ∷ ms) = ap (λ (qs : Shapes). (m.name, (m.width, m.depth)) ∷ qs) (memory_shapes ms)

pub store_shapes : (ms : List MemoryVariable) → map shape_of (map store_stored ms) ≡ map (λ m. (m.name, (m.width, m.depth))) ms
store_shapes [] = refl
store_shapes (m ∷ ms) = ap (λ (qs : Shapes). (m.name, (m.width, m.depth)) ∷ qs) (store_shapes ms)

-- numbers that fit

numbers_fit : (xs : List Var) (ns : List ℕ) → NumbersFit xs ns → InputsFit (map as_input xs) ns
numbers_fit [] [] f = tt
numbers_fit [] (n ∷ ns) f = absurd f
numbers_fit (x ∷ xs) [] f = absurd f
numbers_fit (x ∷ xs) (n ∷ ns) f = (f.0, numbers_fit xs ns f.1)

pub all_fit : (xs : List Var) (nss : List (List ℕ)) → AllNumbersFit xs nss → AllFit (map as_input xs) nss
all_fit xs [] f = tt
all_fit xs (ns ∷ nss) f = (numbers_fit xs ns f.0, all_fit xs nss f.1)
