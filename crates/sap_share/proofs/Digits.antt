-- Numbers by their digits in base 128.
use Rattle.sap_lemmas.proofs.Common.{◌≡◌, ℕ, zero, suc, ◌+◌, ◌-◌, ◌*◌, ◌/◌, ◌%◌, ◌<◌, ◌≤◌, List, [], ◌∷◌, ◌++◌, true, false, ap, refl, arith, inl, inr, nat_lt, if◌then◌else◌, cases_Bool, le-ltb, lt-ltb, ltb-false}
use Rattle.sap_share.specs.Keys.{digits, number}

-- the number in front of a list, and what is behind it

abbrev pub Front : Type 0
Front = ℕ × List ℕ

abbrev pub read : List ℕ → Front
read [] = (0, [])
read (d ∷ ds) = if nat_lt d 128 then (d, ds) else (d - 128 + 128 * (read ds).0, (read ds).1)

digits_back : (most n : ℕ) (xs : List ℕ) → n ≤ most → read (digits most n ++ xs) ≡ (n, xs)
digits_back zero n xs l = let t = lt-ltb n 128 (omega arith) in rw t refl
digits_back (suc most) n xs l =
    elim (cases_Bool (nat_lt n 128)) [
      | inl t ↦ rw t (rw t refl)
      | inr f ↦
          let h : 128 ≤ n = ltb-false n 128 f in
          let g : nat_lt (128 + n % 128) 128 ≡ false = le-ltb (128 + n % 128) 128 (omega arith) in
          let r = digits_back most (n / 128) xs (omega arith) in
          let e : 128 + n % 128 - 128 + 128 * (n / 128) ≡ n = omega arith in
          rw (f, g, r) (ap (λ (m : ℕ). let p : Front = (m, xs) in p) e)
    ]

pub number_back : (n : ℕ) (xs : List ℕ) → read (number n ++ xs) ≡ (n, xs)
unfolding number
number_back n xs = digits_back n n xs (omega arith)

-- digit by digit

digits_same : (j k n : ℕ) → n ≤ j → n ≤ k → digits j n ≡ digits k n
digits_same zero zero n a b = refl
digits_same zero (suc k) n a b = let t = lt-ltb n 128 (omega arith) in rw t refl
digits_same (suc j) zero n a b = let t = lt-ltb n 128 (omega arith) in rw t refl
digits_same (suc j) (suc k) n a b =
    elim (cases_Bool (nat_lt n 128)) [
      | inl t ↦ rw t refl
      | inr f ↦ let h : 128 ≤ n = ltb-false n 128 f in rw f (ap (λ (ds : List ℕ). (128 + n % 128) ∷ ds) (digits_same j k (n / 128) (omega arith) (omega arith)))
    ]

pub number_more : (n : ℕ) → 128 ≤ n → number n ≡ (128 + n % 128) ∷ number (n / 128)
unfolding number
number_more zero l = absurd (omega arith)
number_more (suc m) l =
    let f : nat_lt (suc m) 128 ≡ false = le-ltb (suc m) 128 l in
    rw f (ap (λ (ds : List ℕ). (128 + suc m % 128) ∷ ds) (digits_same m (suc m / 128) (suc m / 128) (omega arith) (omega arith)))

pub number_last : (n : ℕ) → n < 128 → number n ≡ n ∷ []
unfolding number
number_last zero l = refl
number_last (suc m) l = let t : nat_lt (suc m) 128 ≡ true = lt-ltb (suc m) 128 l in rw t refl
