-- Binary digits, four at a time.
use Rattle.sap_lemmas.proofs.Common.{◌≡◌, ℕ, zero, suc, ◌+◌, ◌-◌, ◌*◌, ◌/◌, ◌%◌, ◌<◌, ◌≤◌, Bool, true, ◌&&◌, T, eqb, List, [], ◌∷◌, ◌++◌, length, drop, get_or, set, refl, sym, ap, ◌∙◌, inl, inr, arith, eq-zero-or-pos, eqb→eq, append_assoc, drop-append-le, drop_all}
use Rattle.std.proofs.lemmas.Slice.{drop-append-drop}
use lib.Ieee.Fits.{and_l, and_r}
use native.Mathlib.Numerals.{unary_clauses}
use Rattle.sap_wave.specs.Digits.{bits, digits_of}
use Rattle.sap_wave.specs.declared.digits.TheConstants.{QUADS}
use Rattle.sap_wave.proofs.DigitsLemmas.{digits_length}

-- the table

abbrev is_quad : ℕ → Bool
is_quad q =
    (eqb (get_or QUADS (q * 4) 0) (48 + q / 8) && eqb (get_or QUADS (q * 4 + 1) 0) (48 + q / 4 % 2))
    && (eqb (get_or QUADS (q * 4 + 2) 0) (48 + q / 2 % 2) && eqb (get_or QUADS (q * 4 + 3) 0) (48 + q % 2))

abbrev are_quads : ℕ → Bool
are_quads zero = true
are_quads (suc q) = is_quad q && are_quads q

quads_below : (n q : ℕ) → T (are_quads n) → q < n → T (is_quad q)
quads_below zero q t h = absurd (omega arith)
quads_below (suc n) q t h =
    elim (eq-zero-or-pos (n - q)) [
      | inl z ↦ let e : q ≡ n = omega arith in rw e (and_l _ (are_quads n) t)
      | inr g ↦ quads_below n q (and_r _ (are_quads n) t) (omega arith)
    ]

pub record QuadAt (q : ℕ) : Type 0 where
  pub first : get_or QUADS (q * 4) 0 ≡ 48 + q / 8
  pub second : get_or QUADS (q * 4 + 1) 0 ≡ 48 + q / 4 % 2
  pub third : get_or QUADS (q * 4 + 2) 0 ≡ 48 + q / 2 % 2
  pub fourth : get_or QUADS (q * 4 + 3) 0 ≡ 48 + q % 2

pub quad_at : (q : ℕ) → q < 16 → QuadAt q
quad_at q h =
    let t = quads_below 16 q tt h in
    let front = and_l _ _ t in
    let back = and_r _ _ t in
    record {
      first = eqb→eq _ _ (and_l _ _ front);
      second = eqb→eq _ _ (and_r _ _ front);
      third = eqb→eq _ _ (and_l _ _ back);
      fourth = eqb→eq _ _ (and_r _ _ back);
    }

-- four bytes more are written over others
pub four_set : (at : ℕ) (bytes : List ℕ) (a b c d : ℕ) → at + 4 ≤ length bytes
    → drop at (set (set (set (set bytes at a) (at + 1) b) (at + 2) c) (at + 3) d) ≡ a ∷ b ∷ c ∷ d ∷ drop (at + 4) bytes
four_set zero (x ∷ y ∷ z ∷ w ∷ bytes) a b c d h = refl
four_set (suc at) (x ∷ bytes) a b c d h =
    let more = four_set at bytes a b c d (omega (arith, h)) in
    let plain = simp unary_clauses at more in
    simp unary_clauses plain
four_set _ _ a b c d h = absurd (omega (arith, h))

-- the digits

abbrev pub four_of : ℕ → List ℕ
four_of q = (48 + q / 8) ∷ (48 + q / 4 % 2) ∷ (48 + q / 2 % 2) ∷ (48 + q % 2) ∷ []

one_by_one : (xs : List ℕ) (a b c d : ℕ) → (((xs ++ a ∷ []) ++ b ∷ []) ++ c ∷ []) ++ d ∷ [] ≡ xs ++ a ∷ b ∷ c ∷ d ∷ []
one_by_one [] a b c d = refl
one_by_one (x ∷ xs) a b c d = ap (λ (ys : List ℕ). x ∷ ys) (one_by_one xs a b c d)

-- the last four
pub last_four : (count n : ℕ) → digits_of 48 2 (suc (suc (suc (suc count)))) n ≡ digits_of 48 2 count (n / 16) ++ four_of (n % 16)
last_four count n =
    let q : n / 2 / 2 / 2 / 2 ≡ n / 16 = omega arith in
    let a : 48 + n / 2 / 2 / 2 % 2 ≡ 48 + n % 16 / 8 = omega arith in
    let b : 48 + n / 2 / 2 % 2 ≡ 48 + n % 16 / 4 % 2 = omega arith in
    let c : 48 + n / 2 % 2 ≡ 48 + n % 16 / 2 % 2 = omega arith in
    let d : 48 + n % 2 ≡ 48 + n % 16 % 2 = omega arith in
    one_by_one (digits_of 48 2 count (n / 2 / 2 / 2 / 2)) (48 + n / 2 / 2 / 2 % 2) (48 + n / 2 / 2 % 2) (48 + n / 2 % 2) (48 + n % 2)
    ∙ ap (λ (k : ℕ). digits_of 48 2 count k ++ (48 + n / 2 / 2 / 2 % 2) ∷ (48 + n / 2 / 2 % 2) ∷ (48 + n / 2 % 2) ∷ (48 + n % 2) ∷ []) q
    ∙ ap (λ (k : ℕ). digits_of 48 2 count (n / 16) ++ k ∷ (48 + n / 2 / 2 % 2) ∷ (48 + n / 2 % 2) ∷ (48 + n % 2) ∷ []) a
    ∙ ap (λ (k : ℕ). digits_of 48 2 count (n / 16) ++ (48 + n % 16 / 8) ∷ k ∷ (48 + n / 2 % 2) ∷ (48 + n % 2) ∷ []) b
    ∙ ap (λ (k : ℕ). digits_of 48 2 count (n / 16) ++ (48 + n % 16 / 8) ∷ (48 + n % 16 / 4 % 2) ∷ k ∷ (48 + n % 2) ∷ []) c
    ∙ ap (λ (k : ℕ). digits_of 48 2 count (n / 16) ++ (48 + n % 16 / 8) ∷ (48 + n % 16 / 4 % 2) ∷ (48 + n % 16 / 2 % 2) ∷ k ∷ []) d

-- four more are written before others
pub four_more : (whole old new : List ℕ) (start left : ℕ) → 4 ≤ start → whole ≡ digits_of 48 2 start left ++ drop start old
    → drop (start - 4) new ≡ (48 + left % 16 / 8) ∷ (48 + left % 16 / 4 % 2) ∷ (48 + left % 16 / 2 % 2) ∷ (48 + left % 16 % 2) ∷ drop (start - 4 + 4) old
    → whole ≡ digits_of 48 2 (start - 4) (left / 16) ++ drop (start - 4) new
four_more whole old new start left long before written =
    let e : start ≡ suc (suc (suc (suc (start - 4)))) = omega arith in
    let back : start - 4 + 4 ≡ start = omega arith in
    before
    ∙ ap (λ (k : ℕ). digits_of 48 2 k left ++ drop start old) e
    ∙ ap (λ (xs : List ℕ). xs ++ drop start old) (last_four (start - 4) left)
    ∙ append_assoc (digits_of 48 2 (start - 4) (left / 16)) (four_of (left % 16)) (drop start old)
    ∙ ap (λ (k : ℕ). digits_of 48 2 (start - 4) (left / 16) ++ (four_of (left % 16) ++ drop k old)) (sym back)
    ∙ ap (λ (xs : List ℕ). digits_of 48 2 (start - 4) (left / 16) ++ xs) (sym written)

-- the last of more digits are the digits
last_digits : (more width n : ℕ) → drop more (digits_of 48 2 (width + more) n) ≡ digits_of 48 2 width n
last_digits more zero n =
    let l = digits_length 48 2 more n in
    let none : 0 + more ≡ more = omega arith in
    ap (λ (k : ℕ). drop more (digits_of 48 2 k n)) none ∙ drop_all more (digits_of 48 2 more n) (omega (arith, l))
last_digits more (suc width) n =
    let l = digits_length 48 2 (width + more) (n / 2) in
    let e : suc width + more ≡ suc (width + more) = omega arith in
    ap (λ (k : ℕ). drop more (digits_of 48 2 k n)) e
    ∙ drop-append-le more (digits_of 48 2 (width + more) (n / 2)) ((48 + n % 2) ∷ []) (omega (arith, l))
    ∙ ap (λ (xs : List ℕ). xs ++ (48 + n % 2) ∷ []) (last_digits more width (n / 2))

-- the digits stand at the end of the bytes
pub bits_behind : (width n start left : ℕ) (bytes : List ℕ) → width ≤ 64 → start ≤ 64 - width → digits_of 48 2 64 n ≡ digits_of 48 2 start left ++ drop start bytes
    → drop (64 - width) bytes ≡ bits width n
unfolding bits
bits_behind width n start left bytes most enough is =
    let e : 64 ≡ width + (64 - width) = omega arith in
    sym (drop-append-drop start bytes (digits_of 48 2 start left) (64 - width) enough (digits_length 48 2 start left))
    ∙ ap (drop (64 - width)) (sym is)
    ∙ ap (λ (k : ℕ). drop (64 - width) (digits_of 48 2 k n)) e
    ∙ last_digits (64 - width) width n

-- one digit
pub one_bit : (n : ℕ) → bits 1 n ≡ (48 + n % 2) ∷ []
unfolding bits
one_bit n = refl
