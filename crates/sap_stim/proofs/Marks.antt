-- Where the first mark of a text stands.
use Rattle.sap_lemmas.proofs.Common.{◌≡◌, ℕ, zero, suc, ◌+◌, ◌<◌, ◌≤◌, Bool, true, false, not, cond, eqb, List, [], ◌∷◌, length, get_or, take, drop, refl, sym, ap, ◌∙◌, ◌⊎◌, inl, inr, arith, after_first, before_first, list_all, position_or_len, and_parts, cases_lt, drop-drop, drop-take, get_or-take, length-take-le, take-take, take_all}
use borrow.Author.Tests.{eq-eqb, eqb-true, ne_eqb}
use Rattle.sap_stim.proofs.Pieces.{is_mark, mark_within}

other_first : (m b : ℕ) (bs : List ℕ) → eqb b m ≡ false → position_or_len (is_mark m) (b ∷ bs) ≡ 1 + position_or_len (is_mark m) bs
other_first m b bs other = ap (λ (t : Bool). cond (not t) (1 + position_or_len (is_mark m) bs) 0) other

-- no mark stands behind the first
pub mark_at_most : (m : ℕ) (s : List ℕ) (k : ℕ) → k < length s → get_or s k 0 ≡ m → position_or_len (is_mark m) s ≤ k
mark_at_most m [] k h e = absurd (omega arith)
mark_at_most m (b ∷ bs) zero h e =
    let none : position_or_len (is_mark m) (b ∷ bs) ≡ 0 = ap (λ (t : Bool). cond (not t) (1 + position_or_len (is_mark m) bs) 0) (eq-eqb b m e) in
    omega (arith, none)
mark_at_most m (b ∷ bs) (suc k) h e =
    elim (eqb b m) as (λ t. cond (not t) (1 + position_or_len (is_mark m) bs) 0 ≤ suc k) [
      | true ↦ omega arith
      | false ↦ let later = mark_at_most m bs k (omega arith) e in omega arith
    ]

-- what stands at the place of the first mark
pub mark_there : (m : ℕ) (s : List ℕ) (k : ℕ) → k ≡ position_or_len (is_mark m) s → k < length s → get_or s k 0 ≡ m
mark_there m [] k e h = absurd (omega arith)
mark_there m (b ∷ bs) k e h =
    elim (eqb b m) as (λ t. eqb b m ≡ t → k ≡ cond (not t) (1 + position_or_len (is_mark m) bs) 0 → get_or (b ∷ bs) k 0 ≡ m) [
      | true ↦ λ here none. ap (λ (j : ℕ). get_or (b ∷ bs) j 0) none ∙ eqb-true b m here
      | false ↦ λ other more.
          let p : ℕ = position_or_len (is_mark m) bs in
          let j : k ≡ suc p = omega (arith, more) in
          ap (λ (i : ℕ). get_or (b ∷ bs) i 0) j ∙ mark_there m bs p refl (omega (arith, j, h))
    ] refl e

-- the first mark behind a place
pub mark_behind : (m : ℕ) (s : List ℕ) (k : ℕ) → k ≤ position_or_len (is_mark m) s → position_or_len (is_mark m) s ≡ k + position_or_len (is_mark m) (drop k s)
mark_behind m s zero h = omega arith
mark_behind m [] (suc k) h = absurd (omega arith)
mark_behind m (b ∷ bs) (suc k) h =
    elim (eqb b m) as (λ t. suc k ≤ cond (not t) (1 + position_or_len (is_mark m) bs) 0
    → cond (not t) (1 + position_or_len (is_mark m) bs) 0 ≡ suc k + position_or_len (is_mark m) (drop k bs)) [
      | true ↦ λ small. absurd (omega arith)
      | false ↦ λ small. let later = mark_behind m bs k (omega arith) in omega arith
    ] h

-- how long the front of a text is
pub front_length : (m : ℕ) (s : List ℕ) → length (before_first (is_mark m) s) ≡ position_or_len (is_mark m) s
front_length m s = length-take-le (position_or_len (is_mark m) s) s (mark_within m s)

-- the front of what stands behind a place
pub front_behind : (m : ℕ) (s : List ℕ) (k : ℕ) → k ≤ position_or_len (is_mark m) s → drop k (before_first (is_mark m) s) ≡ before_first (is_mark m) (drop k s)
front_behind m s k h =
    let p : ℕ = position_or_len (is_mark m) (drop k s) in
    ap (λ (j : ℕ). drop k (take j s)) (mark_behind m s k h) ∙ drop-take k p s

-- the bytes before a place are those of the front
pub front_take : (m : ℕ) (s : List ℕ) (k : ℕ) → k ≤ position_or_len (is_mark m) s → take k (before_first (is_mark m) s) ≡ take k s
front_take m s k h = take-take k (position_or_len (is_mark m) s) s h

pub front_byte : (m : ℕ) (s : List ℕ) (k : ℕ) → k < position_or_len (is_mark m) s → get_or (before_first (is_mark m) s) k 0 ≡ get_or s k 0
front_byte m s k h = get_or-take (position_or_len (is_mark m) s) s k 0 h

-- no mark stands among bytes of another kind
pub kind_within : (P : ℕ → Bool) (m : ℕ) → P m ≡ false → (s : List ℕ) (k : ℕ) → k ≤ length s → list_all P (take k s) ≡ true → k ≤ position_or_len (is_mark m) s
kind_within P m none s zero h all = omega arith
kind_within P m none [] (suc k) h all = absurd (omega arith)
kind_within P m none (b ∷ bs) (suc k) h all =
    let p = and_parts (P b) (list_all P (take k bs)) all in
    let other : eqb b m ≡ false = ne_eqb b m (λ same. absurd (let e : P m ≡ true = ap P (sym same) ∙ p.0 in let f : ⊥ = cc in f)) in
    let later = kind_within P m none bs k (omega arith) p.1 in
    omega (arith, other_first m b bs other, later)

pub kind_inside : (P : ℕ → Bool) (m : ℕ) → P m ≡ false → (s : List ℕ) (k : ℕ) → k < length s → list_all P (take k s) ≡ true
    → (get_or s k 0 ≡ m → ⊥) → k < position_or_len (is_mark m) s
kind_inside P m none s k h all other =
    elim (cases_lt k (position_or_len (is_mark m) s)) [
      | inl inside ↦ inside
      | inr behind ↦ absurd (other (mark_there m s k (omega (arith, behind, kind_within P m none s k (omega (arith, h)) all)) h))
    ]

-- the line at the front of a text, before the first LF
abbrev pub line : List ℕ → List ℕ
line s = before_first (is_mark 10) s

-- the field at its front, before the first space, is no longer than the text
pub field_within : (s : List ℕ) → position_or_len (is_mark 32) (line s) ≤ position_or_len (is_mark 10) s
field_within s = omega (arith, mark_within 32 (line s), front_length 10 s)

-- the field, by where it ends
pub field_taken : (s : List ℕ) (k : ℕ) → k ≡ position_or_len (is_mark 32) (line s) → take k s ≡ before_first (is_mark 32) (line s)
field_taken s k e = sym (front_take 10 s k (omega (arith, e, field_within s))) ∙ ap (λ (j : ℕ). take j (line s)) e

-- a field ends where the text does, or at a space or an LF
pub field_ends : (s : List ℕ) (k : ℕ) → k ≤ length s → (length s ≡ k) ⊎ ((get_or s k 0 ≡ 32) ⊎ (get_or s k 0 ≡ 10)) → position_or_len (is_mark 32) (line s) ≤ k
field_ends s k h (inl whole) = omega (arith, whole, field_within s, mark_within 10 s)
field_ends s k h (inr (inl space)) =
    elim (cases_lt k (position_or_len (is_mark 10) s)) [
      | inl inside ↦ mark_at_most 32 (line s) k (omega (arith, inside, front_length 10 s)) (front_byte 10 s k inside ∙ space)
      | inr behind ↦ omega (arith, behind, field_within s)
    ]
field_ends s k h (inr (inr lf)) =
    elim (cases_lt k (length s)) [
      | inl inside ↦ omega (arith, mark_at_most 10 s k inside lf, field_within s)
      | inr behind ↦ omega (arith, behind, field_within s, mark_within 10 s)
    ]

-- and not before another byte
pub field_more : (s : List ℕ) (k : ℕ) → k < length s → k ≤ position_or_len (is_mark 32) (line s) → (get_or s k 0 ≡ 32 → ⊥)
    → (get_or s k 0 ≡ 10 → ⊥) → k + 1 ≤ position_or_len (is_mark 32) (line s)
field_more s k h so_far space lf =
    elim (cases_lt k (position_or_len (is_mark 32) (line s))) [
      | inl inside ↦ omega (arith, inside)
      | inr behind ↦ absurd (stands (omega (arith, behind, so_far)))
    ]
  where
    stands : k ≡ position_or_len (is_mark 32) (line s) → ⊥
    stands e = elim (cases_lt k (position_or_len (is_mark 10) s)) [
      | inl inside ↦ space (sym (front_byte 10 s k inside) ∙ mark_there 32 (line s) k e (omega (arith, inside, front_length 10 s)))
      | inr behind ↦ lf (mark_there 10 s k (omega (arith, behind, e, field_within s)) h)
    ]

-- how long the rest of a line is, and what is left behind the field at its front
pub next_rest : (s : List ℕ) (at k : ℕ) → at ≤ position_or_len (is_mark 10) s → k ≡ position_or_len (is_mark 32) (line (drop at s)) → k < position_or_len (is_mark 10) (drop at s)
    → (at + (k + 1) ≤ position_or_len (is_mark 10) s) × (line (drop (at + (k + 1)) s) ≡ after_first (is_mark 32) (line (drop at s)))
next_rest s at k within e more = (
  omega (arith, more, mark_behind 10 s at within),
  sym (ap (λ (j : ℕ). drop (j + 1) (line (drop at s))) (sym e)
      ∙ front_behind 10 (drop at s) (k + 1) (omega (arith, more))
      ∙ ap line (drop-drop (k + 1) at s)),
)

-- a field that ends with its line
pub line_ends : (s : List ℕ) (k : ℕ) → k ≡ position_or_len (is_mark 32) (line s) → (length s ≤ k) ⊎ (get_or s k 0 ≡ 10) → k ≡ position_or_len (is_mark 10) s
line_ends s k e (inl whole) = omega (arith, whole, e, field_within s, mark_within 10 s)
line_ends s k e (inr lf) =
    elim (cases_lt k (length s)) [
      | inl inside ↦ omega (arith, e, mark_at_most 10 s k inside lf, field_within s)
      | inr behind ↦ omega (arith, e, behind, field_within s, mark_within 10 s)
    ]

-- and one with a space behind it
pub line_more : (s : List ℕ) (k : ℕ) → k ≡ position_or_len (is_mark 32) (line s) → k < length s → (get_or s k 0 ≡ 10 → ⊥) → k < position_or_len (is_mark 10) s
line_more s k e h lf =
    elim (cases_lt k (position_or_len (is_mark 10) s)) [
      | inl inside ↦ inside
      | inr behind ↦ absurd (lf (mark_there 10 s k (omega (arith, behind, e, field_within s)) h))
    ]

-- a text without an LF is its own line
pub line_whole : (s : List ℕ) (k : ℕ) → k ≡ position_or_len (is_mark 10) s → length s ≤ k → line s ≡ s
line_whole s k e whole = take_all (position_or_len (is_mark 10) s) s (omega (arith, e, whole))
