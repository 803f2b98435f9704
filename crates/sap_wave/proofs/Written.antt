-- Digits that are written one after another.
use Rattle.sap_lemmas.proofs.Common.{◌≡◌, ℕ, zero, suc, ◌+◌, ◌-◌, ◌/◌, ◌%◌, ◌^◌, ◌<◌, ◌≤◌, List, [], ◌∷◌, ◌++◌, true, false, nat_lt, length, length-append, refl, sym, ap, ◌∙◌, arith, inl, inr, append_assoc, cases_Bool, ltb-false, nat_tests}
use native.Mathlib.Numerals.{unary_clauses}
use Rattle.sap_wave.specs.Digits.{digits_of, count_within, identifier_count, identifier, bits}
use Rattle.sap_wave.proofs.DigitsLemmas.{identifier_length, quotient_less}

-- the bits from the highest down to a place
abbrev pub bits_above : (width number place : ℕ) → List ℕ
bits_above width number place = digits_of 48 2 (width - place) (number / 2 ^ place)

pub bits_all : (w n : ℕ) → bits_above w n 0 ≡ bits w n
unfolding bits
bits_all w n =
    let a : w - 0 ≡ w = omega arith in
    let b : n / 2 ^ 0 ≡ n = simp unary_clauses (omega arith) in
    ap (λ (k : ℕ). digits_of 48 2 k (n / 2 ^ 0)) a ∙ ap (λ (q : ℕ). digits_of 48 2 w q) b

-- as many steps as the number are enough, however many more there are
same_count : (b s t n : ℕ) → 2 ≤ b → n ≤ s → n ≤ t → count_within b s n ≡ count_within b t n
same_count b zero zero n two l m = refl
same_count b zero (suc t) n two l m =
    let small : nat_lt n b ≡ true = grind (arith, nat_tests) in
    rw small refl
same_count b (suc s) zero n two l m =
    let small : nat_lt n b ≡ true = grind (arith, nat_tests) in
    rw small refl
same_count b (suc s) (suc t) n two l m =
    elim (cases_Bool (nat_lt n b)) [
      | inl small ↦ rw small refl
      | inr e ↦
          let big : b ≤ n = ltb-false n b e in
          rw e (ap suc (same_count b s t (n / b) two (quotient_less b s n two big l) (quotient_less b t n two big m)))
    ]

count_of_one : (n : ℕ) → n < 94 → identifier_count n ≡ 1
count_of_one zero l = refl
count_of_one (suc n) l =
    let small : nat_lt (suc n) 94 ≡ true = grind (arith, nat_tests) in
    rw small refl

count_of_more : (n : ℕ) → 94 ≤ n → identifier_count n ≡ suc (identifier_count (n / 94))
count_of_more zero l = absurd (omega arith)
count_of_more (suc n) l =
    let big : nat_lt (suc n) 94 ≡ false = grind (arith, nat_tests) in
    let less = quotient_less 94 n (suc n) (omega arith) l (omega arith) in
    rw big (ap suc (same_count 94 n (suc n / 94) (suc n / 94) (omega arith) less (omega arith)))

pub identifier_of_one : (n : ℕ) → n < 94 → identifier n ≡ (33 + n) ∷ []
unfolding identifier
identifier_of_one n l =
    let r : n % 94 ≡ n = omega arith in
    ap (λ (k : ℕ). digits_of 33 94 k n) (count_of_one n l) ∙ ap (λ (d : ℕ). (33 + d) ∷ []) r

pub identifier_of_more : (n : ℕ) → 94 ≤ n → identifier n ≡ identifier (n / 94) ++ ((33 + n % 94) ∷ [])
unfolding identifier
identifier_of_more n l = ap (λ (k : ℕ). digits_of 33 94 k n) (count_of_more n l)

count_at_most : (b s n : ℕ) → count_within b s n ≤ s + 1
count_at_most b zero n = omega arith
count_at_most b (suc s) n =
    let m = count_at_most b s (n / b) in
    elim (cases_Bool (nat_lt n b)) [ inl t ↦ rw t (omega arith) | inr e ↦ rw e (omega (arith, m)) ]

pub identifier_short : (n : ℕ) → length (identifier n) ≤ n + 1
identifier_short n = let l = identifier_length n in let m = count_at_most 94 n n in omega (arith, l, m)

pub identifier_longer : (n : ℕ) → 94 ≤ n → length (identifier n) ≡ length (identifier (n / 94)) + 1
identifier_longer n l = ap length (identifier_of_more n l) ∙ length-append (identifier (n / 94)) ((33 + n % 94) ∷ [])

pub identifier_grows : (old mid out : List ℕ) (n d : ℕ) → 94 ≤ n → mid ≡ old ++ identifier (n / 94) → out ≡ mid ++ (d ∷ []) → d ≡ 33 + n % 94 → out ≡ old ++ identifier n
identifier_grows old mid out n d l m o e =
    o
    ∙ ap (λ (x : List ℕ). x ++ (d ∷ [])) m
    ∙ append_assoc old (identifier (n / 94)) (d ∷ [])
    ∙ ap (λ (x : ℕ). old ++ (identifier (n / 94) ++ (x ∷ []))) e
    ∙ ap (λ (x : List ℕ). old ++ x) (sym (identifier_of_more n l))

pub ruleset identifiers = (identifier_of_one, identifier_longer, identifier_short)
