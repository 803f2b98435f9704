-- Numbers in decimal.
use Rattle.sap_lemmas.proofs.Common.{◌≡◌, ℕ, zero, suc, ◌+◌, ◌-◌, ◌*◌, ◌/◌, ◌%◌, ◌^◌, ◌<◌, ◌≤◌, List, [], ◌∷◌, ◌++◌, true, false, refl, sym, ap, ◌∙◌, arith, nat_lt, inl, inr, decimal, list_all, is_ascii_digit, cases_Bool, and_parts, common_steps, decimal_digit, decimal_step}
use Rattle.sap_tagged.specs.Keys.{last_digits, numeral}

one_digit : (n : ℕ) → nat_lt n 10 ≡ true → n < 10
one_digit n h = grind (arith, common_steps)

more_digits : (n : ℕ) → nat_lt n 10 ≡ false → 10 ≤ n
more_digits n h = grind (arith, common_steps)

-- what digits read as, behind others that read as v
abbrev read_on : (v : ℕ) → List ℕ → ℕ
read_on v [] = v
read_on v (c ∷ cs) = read_on (v * 10 + (c - 48)) cs

read_join : (v c : ℕ) (ds : List ℕ) → read_on v (ds ++ c ∷ []) ≡ read_on v ds * 10 + (c - 48)
read_join v c [] = refl
read_join v c (e ∷ ds) = read_join (v * 10 + (e - 48)) c ds

whole : (n : ℕ) → n / 10 * 10 + (48 + n % 10 - 48) ≡ n
whole n = omega arith

read_back : (k n : ℕ) → n < k → read_on 0 (last_digits k n) ≡ n
read_back zero n h = absurd (omega arith)
read_back (suc k) n h = elim (cases_Bool (nat_lt n 10)) [
  | inl e ↦ rw e (omega arith)
  | inr e ↦
      (let m = more_digits n e in
      rw e (read_join 0 (48 + n % 10) (last_digits k (n / 10)) ∙ ap (λ (v : ℕ). v * 10 + (48 + n % 10 - 48)) (read_back k (n / 10) (omega arith)) ∙ whole n))
]

pub numeral_injective : (m n : ℕ) → numeral m ≡ numeral n → m ≡ n
unfolding numeral
numeral_injective m n e = sym (read_back (suc m) m (omega arith)) ∙ ap (read_on 0) e ∙ read_back (suc n) n (omega arith)

a_digit : (r : ℕ) → r < 10 → is_ascii_digit (48 + r) ≡ true
a_digit r h = grind (arith, common_steps)

all_and : (ds : List ℕ) (c : ℕ) → list_all is_ascii_digit ds ≡ true → is_ascii_digit c ≡ true → list_all is_ascii_digit (ds ++ c ∷ []) ≡ true
all_and [] c h e = rw e refl
all_and (d ∷ ds) c h e = let b = and_parts (is_ascii_digit d) (list_all is_ascii_digit ds) h in rw (b.0, all_and ds c b.1 e) refl

all_digits : (k n : ℕ) → list_all is_ascii_digit (last_digits k n) ≡ true
all_digits zero n = refl
all_digits (suc k) n = elim (cases_Bool (nat_lt n 10)) [
  | inl e ↦ rw (e, a_digit n (one_digit n e)) refl
  | inr e ↦ rw e (all_and (last_digits k (n / 10)) (48 + n % 10) (all_digits k (n / 10)) (a_digit (n % 10) (omega arith)))
]

pub numeral_digits : (n : ℕ) → list_all is_ascii_digit (numeral n) ≡ true
unfolding numeral
numeral_digits n = all_digits (suc n) n

as_written : (k n : ℕ) → n < k → n < 2 ^ 64 → last_digits k n ≡ decimal n
as_written zero n h l = absurd (omega arith)
as_written (suc k) n h l = elim (cases_Bool (nat_lt n 10)) [
  | inl e ↦ rw e (sym (decimal_digit n (one_digit n e)))
  | inr e ↦
      (let m = more_digits n e in
      rw e (ap (λ (ds : List ℕ). ds ++ (48 + n % 10) ∷ []) (as_written k (n / 10) (omega arith) (omega arith)) ∙ sym (decimal_step n m l)))
]

-- a number of 64 bits is as a program writes it
pub numeral_decimal : (n : ℕ) → n < 2 ^ 64 → numeral n ≡ decimal n
unfolding numeral
numeral_decimal n l = as_written (suc n) n (omega arith) l

pub numeral_zero : numeral 0 ≡ 48 ∷ []
unfolding numeral
numeral_zero = refl
