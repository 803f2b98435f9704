-- A row of the table is found by its name.
use Rattle.sap_lemmas.proofs.Common.{◌≡◌, ◌∙◌, ◌<◌, ℕ, zero, suc, List, [], ◌∷◌, Bool, true, false, Some, length, refl, sym, ap, subst, inl, inr, arith, Contains, find, not, ◌&&◌, bytes_eq, AllByRecursion, list_all, slice_index_or, cases_Bool, bytes_eq_same, equal_of_bytes_eq}
use Rattle.sap_words.specs.Words.{Row, commands, row_named}

-- what holds of each element holds of one that a list contains
at_place : {X : Type 0} (P : X → Type 0) (xs : List X) (i : ℕ) (d : X) → AllByRecursion P xs → i < length xs → P (slice_index_or xs i d)
at_place P [] i d h low = absurd (omega arith)
at_place P (x ∷ xs) zero d h low = h.0
at_place P (x ∷ xs) (suc i) d h low = at_place P xs i d h.1 (omega arith)

pub at_one : {X : Type 0} (P : X → Type 0) (xs : List X) (x : X) → AllByRecursion P xs → Contains xs x → P x
at_one P xs x h has = subst P has.2 (at_place P xs has.0 x h has.1)

-- ---- the row that is found

record Found (rows : List Row) (name : List ℕ) (r : Row) : Type 0 where
  pub is_row : Contains rows r
  pub named : name ≡ r.name

found_behind : (s : Row) (rows : List Row) (name : List ℕ) (r : Row) → Found rows name r → Found (s ∷ rows) name r
found_behind s rows name r f = record { is_row = (suc f.is_row.0, omega (arith, f.is_row.1), f.is_row.2); named = f.named }

found_in : (rows : List Row) (name : List ℕ) (r : Row) → find (λ (s : Row). bytes_eq name s.name) rows ≡ Some r → Found rows name r
found_in [] name r h = absurd (cc)
found_in (s ∷ rows) name r h =
    elim (cases_Bool (bytes_eq name s.name)) [
      | inl t ↦
          let g : Some s ≡ Some r = rw t at h in
          let e : s ≡ r = cc in
          record { is_row = (0, omega arith, e); named = equal_of_bytes_eq name s.name t ∙ ap (λ (q : Row). q.name) e }
      | inr f ↦ let g : find (λ (q : Row). bytes_eq name q.name) rows ≡ Some r = rw f at h in found_behind s rows name r (found_in rows name r g)
    ]

pub row_found : (name : List ℕ) (r : Row) → row_named name ≡ Some r → Contains commands r × (name ≡ r.name)
row_found name r h = let f = found_in commands name r h in (f.is_row, f.named)

-- ---- no two rows have one name

abbrev are_apart : List Row → Bool
are_apart [] = true
are_apart (r ∷ rows) = list_all (λ (s : Row). not (bytes_eq s.name r.name)) rows && are_apart rows

not_first : (rows : List Row) (first r : Row) (i : ℕ) → list_all (λ (s : Row). not (bytes_eq s.name first.name)) rows ≡ true → i < length rows → slice_index_or rows i r ≡ r
    → bytes_eq r.name first.name ≡ false
not_first [] first r i h low e = absurd (omega arith)
not_first (s ∷ rows) first r zero h low e =
    elim (cases_Bool (bytes_eq s.name first.name)) [
      | inl t ↦ let g : false ≡ true = rw t at h in absurd (cc)
      | inr f ↦ subst (λ (q : Row). bytes_eq q.name first.name ≡ false) e f
    ]
not_first (s ∷ rows) first r (suc i) h low e =
    elim (cases_Bool (bytes_eq s.name first.name)) [
      | inl t ↦ let g : false ≡ true = rw t at h in absurd (cc)
      | inr f ↦ let g : list_all (λ (q : Row). not (bytes_eq q.name first.name)) rows ≡ true = rw f at h in not_first rows first r i g (omega arith) e
    ]

only : (rows : List Row) (r : Row) (i : ℕ) → are_apart rows ≡ true → i < length rows → slice_index_or rows i r ≡ r → find (λ (s : Row). bytes_eq r.name s.name) rows ≡ Some r
only [] r i h low e = absurd (omega arith)
only (s ∷ rows) r zero h low e =
    let same : bytes_eq r.name s.name ≡ true = subst (λ (q : Row). bytes_eq r.name q.name ≡ true) (sym e) (bytes_eq_same r.name) in
    rw same (ap Some e)
only (s ∷ rows) r (suc i) h low e =
    elim (cases_Bool (list_all (λ (q : Row). not (bytes_eq q.name s.name)) rows)) [
      | inl t ↦
          let g : are_apart rows ≡ true = rw t at h in
          let f : bytes_eq r.name s.name ≡ false = not_first rows s r i t (omega arith) e in
          rw f (only rows r i g (omega arith) e)
      | inr f ↦ let g : false ≡ true = rw f at h in absurd (cc)
    ]

pub named : (r : Row) → Contains commands r → row_named r.name ≡ Some r
named r has = only commands r has.0 refl has.1 has.2
