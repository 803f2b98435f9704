-- Variables on a list on which no name stands twice.
use Rattle.sap_lemmas.proofs.Common.{◌≡◌, ℕ, zero, suc, ◌+◌, ◌<◌, ◌≤◌, List, [], ◌∷◌, ◌++◌, map, length, Bool, true, false, Option, Some, ◌⊎◌, inl, inr, refl, sym, ap, subst, arith, bytes_eq, if◌then◌else◌, or_parts, bytes_eq_apart_back, bytes_eq_same, or_right, ◌∙◌}
use Rattle.sap_net.proofs.NamesLemmas.{apart_by_membership}
use Rattle.sap_maps.specs.Prelude.{Name, Valuation, find}
use Rattle.sap_meaning.specs.Program.{Entity}
use Rattle.sap_net.specs.Names.{is_among, AreDistinct}
use Rattle.sap_ir.specs.Prelude.{Source, memory_names, variable_names, first_number, register_number, number_at_start, first_cell, cell_at_start}
use Rattle.sap_ir.specs.declared.guarded.Var.{Var}
use Rattle.sap_ir.specs.declared.guarded.MemoryVariable.{MemoryVariable}
use Rattle.sap_tagged.specs.Plain.{for_entities}

-- it stands on the list
abbrev pub In : {A : Type 0} → List A → A → Type 0
In [] x = ⊥
In (y ∷ ys) x = (y ≡ x) ⊎ In ys x

pub among_by : {A : Type 0} (f : A → Name) (xs : List A) (x : A) → In xs x → is_among (f x) (map f xs) ≡ true
among_by f [] x h = absurd h
among_by f (y ∷ ys) x (inl e) = ap (λ n. is_among n (map f (y ∷ ys))) (ap f (sym e)) ∙ rw (bytes_eq_same (f y)) refl
among_by f (y ∷ ys) x (inr h) = or_right (bytes_eq (f x) (f y)) (is_among (f x) (map f ys)) (among_by f ys x h)

-- what a search by names gives of an element
first_in : {A X : Type 0} (f : A → Name) (of : A → X) (x : A) (g : List A → X) → ((y : A) (ys : List A) → g (y ∷ ys) ≡ (if bytes_eq (f y) (f x) then of y else g ys))
    → (xs : List A) → AreDistinct (map f xs) → In xs x → g xs ≡ of x
first_in f of x g step [] d h = absurd h
first_in f of x g step (y ∷ ys) d (inl e) =
    step y ys ∙ ap (λ (b : Bool). if b then of y else g ys) (ap (bytes_eq (f y)) (ap f (sym e)) ∙ bytes_eq_same (f y)) ∙ ap of e
first_in f of x g step (y ∷ ys) d (inr h) =
    step y ys ∙ ap (λ (b : Bool). if b then of y else g ys) (apart_by_membership (f y) (f x) (map f ys) d.0 (among_by f ys x h)) ∙ first_in f of x g step ys d.1 h

pub find_by : {A X : Type 0} (f : A → Name) (of : A → X) (xs : List A) (x : A) → AreDistinct (map f xs) → In xs x → find (map (λ z. (f z, of z)) xs) (f x) ≡ Some (of x)
find_by f of xs x d h = first_in f (λ z. Some (of z)) x (λ ys. find (map (λ z. (f z, of z)) ys) (f x)) (λ y ys. refl) xs d h

pub among_in : (xs : List Var) (x : Var) → In xs x → is_among x.name (variable_names xs) ≡ true
among_in xs x h = among_by (λ (v : Var). v.name) xs x h

pub number_in : (before : Option Valuation) (xs : List Var) (x : Var) → AreDistinct (variable_names xs) → In xs x → register_number before xs x.name ≡ first_number before x
number_in before xs x d h = first_in (λ (v : Var). v.name) (first_number before) x (λ ys. register_number before ys x.name) (λ y ys. refl) xs d h

pub cell_in : (before : Option Valuation) (ms : List MemoryVariable) (m : MemoryVariable) (i : ℕ) → AreDistinct (memory_names ms) → In ms m
    → cell_at_start before ms m.name i ≡ first_cell before m i
cell_in before ms m i d h = first_in (λ (z : MemoryVariable). z.name) (λ z. first_cell before z i) m (λ ys. cell_at_start before ys m.name i) (λ y ys. refl) ms d h

-- a name that no register has is 0
pub number_out : (before : Option Valuation) (xs : List Var) (n : Name) → is_among n (variable_names xs) ≡ false → register_number before xs n ≡ 0
number_out before [] n f = refl
number_out before (y ∷ ys) n f =
    let p = or_parts (bytes_eq n y.name) (is_among n (variable_names ys)) f in
    let o : bytes_eq y.name n ≡ false = bytes_eq_apart_back n y.name p.0 in
    rw o (number_out before ys n p.1)

-- a name that no input has is a register's
pub start_out : (s : Source) (before : Option Valuation) (is : List Var) (ns : List ℕ) (n : Name) → is_among n (variable_names is) ≡ false
    → number_at_start s before is ns n ≡ register_number before s.registers n
start_out s before (i ∷ is) (x ∷ ns) n f =
    let p = or_parts (bytes_eq n i.name) (is_among n (variable_names is)) f in
    let o : bytes_eq i.name n ≡ false = bytes_eq_apart_back n i.name p.0 in
    rw o (start_out s before is ns n p.1)
start_out s before _ _ n f = refl

pub in_front : {A : Type 0} (xs ys : List A) (x : A) → In xs x → In (xs ++ ys) x
in_front [] ys x h = absurd h
in_front (y ∷ xs) ys x (inl e) = inl e
in_front (y ∷ xs) ys x (inr h) = inr (in_front xs ys x h)

pub in_behind : {A : Type 0} (xs ys : List A) (x : A) → In ys x → In (xs ++ ys) x
in_behind [] ys x h = h
in_behind (y ∷ xs) ys x h = inr (in_behind xs ys x h)

pub reached : (x y : ℕ) → x ≤ y → (x ≡ y) ⊎ (x + 1 ≤ y)
reached zero zero h = inl refl
reached zero (suc y) h = inr (omega arith)
reached (suc x) zero h = absurd (omega arith)
reached (suc x) (suc y) h = elim (reached x y (omega arith)) [ inl e ↦ inl (ap (λ (z : ℕ). suc z) e) | inr l ↦ inr (omega arith) ]

-- the variables of an entity that is picked
pub in_entities : {A : Type 0} (picks : ℕ → Bool) (of : ℕ → List A) (v : A) (y : ℕ) → picks y ≡ true → In (of y) v → (x : ℕ) (es : List Entity) → x ≤ y → y < x + length es
    → In (for_entities picks of x es) v
in_entities picks of v y p h x [] l m = absurd (omega arith)
in_entities picks of v y p h x (e ∷ es) l m = elim (reached x y l) [
  | inl j ↦
      in_front (if picks x then of x else []) (for_entities picks of (x + 1) es) v
      (subst (λ (z : ℕ). In (if picks z then of z else []) v) (sym j) (rw p h))
  | inr j ↦
      in_behind (if picks x then of x else []) (for_entities picks of (x + 1) es) v
      (in_entities picks of v y p h (x + 1) es j (omega arith))
]
