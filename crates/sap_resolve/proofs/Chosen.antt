-- The numbers below n that pass a test, in rising order.
use Rattle.sap_lemmas.proofs.Common.{◌≡◌, ℕ, zero, suc, ◌+◌, ◌<◌, List, [], ◌∷◌, ◌++◌, Bool, true, false, ◌&&◌, ◌||◌, refl, sym, ap, ap₂, ◌∙◌, arith, add-one, if◌then◌else◌, inl, inr, length, nat_tests, cases_Bool, and_from, common_steps, IsTrue, nat_eq, nat_lt, or_assoc, or_false, or_true}
use Rattle.sap_resolved.specs.Kept.Hangs.{row_of}
use Rattle.sap_names.specs.declared.entity.Entity.{Entity}
use Rattle.sap_resolved.proofs.FillLemmas.{table_front}
use Rattle.sap_resolved.specs.Fill.{table}
use Rattle.sap_program.specs.Hangs.{rises_from, rises, hangs, flags}

abbrev pub chosen : (ℕ → Bool) → (n : ℕ) → List ℕ
chosen f zero = []
chosen f (suc n) = if f n then chosen f n ++ n ∷ [] else chosen f n

chosen_taken : (f : ℕ → Bool) (n : ℕ) → f n ≡ true → chosen f (n + 1) ≡ chosen f n ++ n ∷ []
chosen_taken f n h = rw (add-one, h) refl

chosen_passed : (f : ℕ → Bool) (n : ℕ) → f n ≡ false → chosen f (n + 1) ≡ chosen f n
chosen_passed f n h = rw (add-one, h) refl

pub taken : (f : ℕ → Bool) (n m : ℕ) (b : Bool) (old new : List ℕ) → b ≡ true → b ≡ f n → m ≡ n → old ≡ chosen f n → new ≡ old ++ m ∷ [] → new ≡ chosen f (n + 1)
taken f n m b old new t e i o w = w ∙ ap₂ (λ (l : List ℕ) (k : ℕ). l ++ k ∷ []) o i ∙ sym (chosen_taken f n (sym e ∙ t))

pub passed : (f : ℕ → Bool) (n : ℕ) (b : Bool) (old new : List ℕ) → b ≡ false → b ≡ f n → old ≡ chosen f n → new ≡ old → new ≡ chosen f (n + 1)
passed f n b old new t e o w = w ∙ o ∙ sym (chosen_passed f n (sym e ∙ t))

hangs_more : (xs : List ℕ) (n y : ℕ) → hangs (xs ++ n ∷ []) y ≡ (hangs xs y || nat_eq n y)
hangs_more [] n y = or_false (nat_eq n y)
hangs_more (x ∷ xs) n y = ap (λ (b : Bool). nat_eq x y || b) (hangs_more xs n y) ∙ or_assoc (nat_eq x y) (hangs xs y) (nat_eq n y)

last_taken : (f : ℕ → Bool) (n y : ℕ) → f n ≡ true → ((nat_lt y n && f y) || nat_eq n y) ≡ (nat_lt y (suc n) && f y)
last_taken f n y h = elim (cases_Bool (nat_eq n y)) [
  | inl e ↦ (let i : n ≡ y = grind (arith, nat_tests) in grind (arith, nat_tests, common_steps, ap f i))
  | inr e ↦ grind (arith, nat_tests, common_steps)
]

last_passed : (f : ℕ → Bool) (n y : ℕ) → f n ≡ false → (nat_lt y n && f y) ≡ (nat_lt y (suc n) && f y)
last_passed f n y h = elim (cases_Bool (nat_eq n y)) [
  | inl e ↦ (let i : n ≡ y = grind (arith, nat_tests) in grind (arith, nat_tests, common_steps, ap f i))
  | inr e ↦ grind (arith, nat_tests, common_steps)
]

-- exactly those below n that pass
hangs_chosen : (f : ℕ → Bool) (n y : ℕ) → hangs (chosen f n) y ≡ (nat_lt y n && f y)
hangs_chosen f zero y = grind (arith, nat_tests)
hangs_chosen f (suc n) y = elim (cases_Bool (f n)) [
  | inl t ↦ ap (λ (b : Bool). hangs (if b then chosen f n ++ n ∷ [] else chosen f n) y) t ∙ hangs_more (chosen f n) n y
      ∙ ap (λ (b : Bool). b || nat_eq n y) (hangs_chosen f n y) ∙ last_taken f n y t
  | inr t ↦ ap (λ (b : Bool). hangs (if b then chosen f n ++ n ∷ [] else chosen f n) y) t ∙ hangs_chosen f n y ∙ last_passed f n y t
]

below_chosen : (f : ℕ → Bool) (n y : ℕ) → hangs (chosen f n) y ≡ true → y < n
below_chosen f n y h = let k : (nat_lt y n && f y) ≡ true = sym (hangs_chosen f n y) ∙ h in grind (arith, nat_tests, common_steps)

rises_from_more : (x : ℕ) (xs : List ℕ) (n : ℕ) → rises_from x xs ≡ true → x < n → ((y : ℕ) → hangs xs y ≡ true → y < n) → rises_from x (xs ++ n ∷ []) ≡ true
rises_from_more x [] n r l h = and_from (nat_lt x n) true (grind (arith, nat_tests)) refl
rises_from_more x (y ∷ xs) n r l h =
    let a : nat_lt x y ≡ true = grind (arith, common_steps) in
    let b : rises_from y xs ≡ true = grind (arith, common_steps) in
    and_from (nat_lt x y) (rises_from y (xs ++ n ∷ [])) a
    (rises_from_more y xs n b (h y (let e : nat_eq y y ≡ true = grind (arith, nat_tests) in rw e refl))
    (λ z k. h z (rw k (or_true (nat_eq y z)))))

rises_more : (xs : List ℕ) (n : ℕ) → rises xs ≡ true → ((y : ℕ) → hangs xs y ≡ true → y < n) → rises (xs ++ n ∷ []) ≡ true
rises_more [] n r h = refl
rises_more (x ∷ xs) n r h =
    rises_from_more x xs n r (h x (let e : nat_eq x x ≡ true = grind (arith, nat_tests) in rw e refl)) (λ z k. h z (rw k (or_true (nat_eq x z))))

rises_chosen : (f : ℕ → Bool) (n : ℕ) → IsTrue (rises (chosen f n))
rises_chosen f zero = refl
rises_chosen f (suc n) = elim (cases_Bool (f n)) [
  | inl t ↦ ap (λ (b : Bool). rises (if b then chosen f n ++ n ∷ [] else chosen f n)) t ∙ rises_more (chosen f n) n (rises_chosen f n) (λ y h. below_chosen f n y h)
  | inr t ↦ ap (λ (b : Bool). rises (if b then chosen f n ++ n ∷ [] else chosen f n)) t ∙ rises_chosen f n
]

pub rises_made : (f : ℕ → Bool) (n : ℕ) (made : List ℕ) → made ≡ chosen f n → IsTrue (rises made)
rises_made f n made e = ap rises e ∙ rises_chosen f n

-- tables of tests that agree
pub table_same : (n : ℕ) (f g : ℕ → Bool) → ((y : ℕ) → y < n → f y ≡ g y) → table n f ≡ table n g
table_same zero f g h = refl
table_same (suc n) f g h =
    ap (λ (l : List Bool). l ++ f n ∷ []) (table_same n f g (λ y l. h y (omega arith)))
    ∙ ap (λ (b : Bool). table n g ++ b ∷ []) (h n (omega arith))

flags_chosen : (f : ℕ → Bool) (n : ℕ) → flags n (chosen f n) ≡ table n f
flags_chosen f n = table_same n (hangs (chosen f n)) f (λ y l. (let t : nat_lt y n ≡ true = grind (arith, nat_tests) in hangs_chosen f n y ∙ rw t refl))

pub flags_made : (f : ℕ → Bool) (n m : ℕ) (made hang : List ℕ) → made ≡ chosen f m → hang ≡ made → m ≡ n → flags n hang ≡ table n f
flags_made f n m made hang e i o = ap (flags n) (i ∙ e ∙ ap (chosen f) o) ∙ flags_chosen f n

-- what a test says of the name of each entity
abbrev pub named : List Entity → (List ℕ → Bool) → ℕ → Bool
named [] f n = false
named (e ∷ es) f zero = f e.name.name
named (e ∷ es) f (suc n) = named es f n

-- a row over entities as a table
pub table_named : (es : List Entity) (f : List ℕ → Bool) → table (length es) (named es f) ≡ row_of es f
table_named [] f = refl
table_named (e ∷ es) f = table_front (length es) (named (e ∷ es) f) ∙ ap (λ (l : List Bool). f e.name.name ∷ l) (table_named es f)
