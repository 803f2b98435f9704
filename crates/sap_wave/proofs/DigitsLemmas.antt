-- Numbers as digits.
use Rattle.sap_lemmas.proofs.Common.{◌≡◌, ℕ, zero, suc, ◌+◌, ◌-◌, ◌*◌, ◌/◌, ◌%◌, ◌^◌, ◌<◌, ◌≤◌, List, [], ◌∷◌, ◌++◌, Bool, true, false, nat_lt, nat_le, length, slice_index, refl, sym, ap, ◌∙◌, arith, cond, inl, inr, subst, list_all, pow-suc, pow-le-pow_right, mul-le-mul_left, mul_comm, div-mul-add, and_from, and_parts, cases_Bool, ltb-false, ltb-true, leb-true, nat_tests, length-append, common_steps, append_three}
use Rattle.std.proofs.lemmas.Nat.{div-add-mod', div_below, mod_below, mod-mul-add}
use native.Mathlib.Numerals.{unary_clauses}
use Rattle.sap_wave.specs.Digits.{digits_of, spelled_behind, spelled, is_digit, are_digits, count_within, identifier_count, identifier, number_spelled, bits, bits_number, numeral, IsSpelling, OneIdentifier, BitsReadBack}

pub spelled_append : (f b n : ℕ) (xs ys : List ℕ) → spelled_behind f b n (xs ++ ys) ≡ spelled_behind f b (spelled_behind f b n xs) ys
spelled_append f b n [] ys = refl
spelled_append f b n (x ∷ xs) ys = spelled_append f b (n * b + (x - f)) xs ys

plus_minus : (f d : ℕ) → (f + d) - f ≡ d
plus_minus f d = omega arith

pub digits_length : (f b k n : ℕ) → length (digits_of f b k n) ≡ k
digits_length f b zero n = refl
digits_length f b (suc k) n = rw length-append (rw (digits_length f b k (n / b)) (omega arith))

quotient_below : (b k n : ℕ) → 0 < b → n < b ^ suc k → n / b < b ^ k
quotient_below b k n h l = div_below n b (b ^ k) h (rw pow-suc at l)

pub digits_spell : (f b k n : ℕ) → 0 < b → n < b ^ k → spelled f b (digits_of f b k n) ≡ n
digits_spell f b zero n h l = let e : n < 1 = simp unary_clauses at l in omega arith
digits_spell f b (suc k) n h l =
    spelled_append f b 0 (digits_of f b k (n / b)) ((f + n % b) ∷ [])
    ∙ ap (λ (q : ℕ). q * b + ((f + n % b) - f)) (digits_spell f b k (n / b) h (quotient_below b k n h l))
    ∙ ap (λ (d : ℕ). n / b * b + d) (plus_minus f (n % b))
    ∙ div-add-mod' n b

one_digit : (f b d : ℕ) → d < b → is_digit f b (f + d) ≡ true
one_digit f b d l = grind (arith, nat_tests)

all_append : (p : ℕ → Bool) (xs ys : List ℕ) → list_all p xs ≡ true → list_all p ys ≡ true → list_all p (xs ++ ys) ≡ true
all_append p [] ys h k = k
all_append p (x ∷ xs) ys h k = let a = and_parts (p x) (list_all p xs) h in and_from (p x) (list_all p (xs ++ ys)) a.0 (all_append p xs ys a.1 k)

pub all_digits : (f b k n : ℕ) → 0 < b → list_all (is_digit f b) (digits_of f b k n) ≡ true
all_digits f b zero n h = refl
all_digits f b (suc k) n h =
    all_append (is_digit f b) (digits_of f b k (n / b)) ((f + n % b) ∷ []) (all_digits f b k (n / b) h)
    (and_from (is_digit f b (f + n % b)) true (one_digit f b (n % b) (mod_below n b h)) refl)

-- a digit is its byte above the first
pub digit_byte : (f b x : ℕ) → is_digit f b x ≡ true → (f ≤ x) × (x < f + b)
digit_byte f b x h = let a = and_parts (nat_le f x) (nat_lt x (f + b)) h in (leb-true f x a.0, ltb-true x (f + b) a.1)

-- digits behind those of a number are the digits of what all spell
digits_onto : (f b k n : ℕ) (bs : List ℕ) → 0 < b → list_all (is_digit f b) bs ≡ true → digits_of f b (k + length bs) (spelled_behind f b n bs) ≡ digits_of f b k n ++ bs
digits_onto f b k n [] h a = grind (arith, common_steps)
digits_onto f b k n (x ∷ bs) h a =
    let p = and_parts (is_digit f b x) (list_all (is_digit f b) bs) a in
    let r = digit_byte f b x p.0 in
    let d : x - f < b = omega (arith, r.0, r.1) in
    let one : f + (x - f) ≡ x = omega (arith, r.0) in
    let m : ℕ = n * b + (x - f) in
    let more : k + suc (length bs) ≡ suc k + length bs = omega arith in
    ap (λ j. digits_of f b j (spelled_behind f b m bs)) more
    ∙ digits_onto f b (suc k) m bs h p.1
    ∙ ap (λ q. (digits_of f b k q ++ ((f + m % b) ∷ [])) ++ bs) (div-mul-add n b (x - f) d)
    ∙ ap (λ q. (digits_of f b k n ++ ((f + q) ∷ [])) ++ bs) (mod-mul-add n b (x - f) d)
    ∙ ap (λ q. (digits_of f b k n ++ (q ∷ [])) ++ bs) one
    ∙ sym (append_three (digits_of f b k n) (x ∷ []) bs)

pub digits_of_spelled : (f b : ℕ) (bs : List ℕ) → 0 < b → list_all (is_digit f b) bs ≡ true → digits_of f b (length bs) (spelled f b bs) ≡ bs
digits_of_spelled f b bs h a = ap (λ j. digits_of f b j (spelled f b bs)) (plus_zero (length bs)) ∙ digits_onto f b 0 0 bs h a where
  plus_zero : (n : ℕ) → n ≡ 0 + n
  plus_zero n = omega arith

pub bits_read_back : BitsReadBack
unfolding bits bits_number
bits_read_back =
    record {
      width = λ w n. digits_length 48 2 w n;
      digits = λ w n. all_digits 48 2 w n (omega arith);
      reads_back = λ w n l. digits_spell 48 2 w n (omega arith) l;
      no_other = λ text a. digits_of_spelled 48 2 text (omega arith) a;
    }

-- How large a number is by how many digits it has.

count_at_least : (b s n : ℕ) → 1 ≤ count_within b s n
count_at_least b zero n = omega arith
count_at_least b (suc s) n = by (nat_lt n b) where
  by : (t : Bool) → 1 ≤ cond t 1 (suc (count_within b s (n / b)))
  by true = omega arith
  by false = omega arith

pub quotient_less : (b s n : ℕ) → 2 ≤ b → b ≤ n → n ≤ suc s → n / b ≤ s
quotient_less b s n two l m =
    let e = div-add-mod' n b in
    let half : n / b * 2 ≤ n / b * b = mul-le-mul_left (n / b) two in
    omega (arith, e, half)

power_one : (b : ℕ) → b ^ 1 ≡ b
power_one b = let z : b ^ 0 ≡ 1 = simp unary_clauses refl in rw (pow-suc b 0, z) (omega arith)

below_product : (b n p : ℕ) → 0 < b → n / b < p → n < p * b
below_product b n p h l =
    let e = div-add-mod' n b in
    let r = mod_below n b h in
    let m : b * suc (n / b) ≤ b * p = mul-le-mul_left b l in
    let c : b * suc (n / b) ≡ n / b * b + b = grind arith in
    let d = mul_comm b p in
    omega (arith, e, r, m, c, d)

pub count_above : (b s n : ℕ) → 2 ≤ b → n ≤ s → n < b ^ count_within b s n
count_above b zero n two l = rw (power_one b) (omega arith)
count_above b (suc s) n two l =
    elim (cases_Bool (nat_lt n b)) [
      | inl t ↦ rw (t, power_one b) (ltb-true n b t)
      | inr e ↦
          let big : b ≤ n = ltb-false n b e in
          let i = count_above b s (n / b) two (quotient_less b s n two big l) in
          rw (e, pow-suc) (below_product b n (b ^ count_within b s (n / b)) (omega arith) i)
    ]

product_below : (b n p : ℕ) → p ≤ n / b → p * b ≤ n
product_below b n p l =
    let e = div-add-mod' n b in
    let m = mul-le-mul_left b l in
    let c = mul_comm b (n / b) in
    let d = mul_comm b p in
    omega (arith, e, m, c, d)

power_at : (b n j : ℕ) → b ≤ n → ((i : ℕ) → suc j ≡ suc (suc i) → b ^ suc i ≤ n / b) → b ^ suc j ≤ n
power_at b n zero big more = rw (power_one b) big
power_at b n (suc i) big more = rw pow-suc (product_below b n (b ^ suc i) (more i refl))

pub count_below : (b s n j : ℕ) → 2 ≤ b → n ≤ s → count_within b s n ≡ suc (suc j) → b ^ suc j ≤ n
count_below b zero n j two l e = absurd (omega arith)
count_below b (suc s) n j two l c =
    elim (cases_Bool (nat_lt n b)) [
      | inl t ↦ let d : 1 ≡ suc (suc j) = rw t at c in absurd (omega (arith, d))
      | inr e ↦
          let big : b ≤ n = ltb-false n b e in
          let small = quotient_less b s n two big l in
          let d : suc (count_within b s (n / b)) ≡ suc (suc j) = rw e at c in
          let r : count_within b s (n / b) ≡ suc j = omega (arith, d) in
          power_at b n j big (λ i same. count_below b s (n / b) i two small (r ∙ same))
    ]

-- How large the number is that digits spell.

pub spelled_below : (f b n : ℕ) (bs : List ℕ) → list_all (is_digit f b) bs ≡ true → spelled_behind f b n bs < suc n * b ^ length bs
spelled_below f b n [] a = simp unary_clauses (omega arith)
spelled_below f b n (x ∷ bs) a =
    let p = and_parts (is_digit f b x) (list_all (is_digit f b) bs) a in
    let r = digit_byte f b x p.0 in
    let d : x - f < b = omega (arith, r.0, r.1) in
    let i = spelled_below f b (n * b + (x - f)) bs p.1 in
    let q : ℕ = b ^ length bs in
    let l : suc (n * b + (x - f)) ≤ suc n * b = grind arith in
    let m : q * suc (n * b + (x - f)) ≤ q * (suc n * b) = mul-le-mul_left q l in
    let c : q * suc (n * b + (x - f)) ≡ suc (n * b + (x - f)) * q = mul_comm q (suc (n * b + (x - f))) in
    let e : q * (suc n * b) ≡ suc n * (q * b) = grind arith in
    rw pow-suc (omega (arith, i, m, c, e))

pub spelled_above : (f b n : ℕ) (bs : List ℕ) → n * b ^ length bs ≤ spelled_behind f b n bs
spelled_above f b n [] = simp unary_clauses (omega arith)
spelled_above f b n (x ∷ bs) =
    let i = spelled_above f b (n * b + (x - f)) bs in
    let q : ℕ = b ^ length bs in
    let c : n * (q * b) ≡ (n * b) * q = grind arith in
    let l : q * (n * b) ≤ q * (n * b + (x - f)) = mul-le-mul_left q (omega arith) in
    let d = mul_comm q (n * b) in
    let e = mul_comm q (n * b + (x - f)) in
    rw pow-suc (omega (arith, i, c, l, d, e))

pub bits_number_below : (text : List ℕ) → list_all (is_digit 48 2) text ≡ true → bits_number text < 2 ^ length text
unfolding bits_number
bits_number_below text a = let u = spelled_below 48 2 0 text a in omega (arith, u)

power_less : (b i j : ℕ) → 0 < b → b ^ i < b ^ j → i < j
power_less b i j h l =
    elim (cases_Bool (nat_lt i j)) [
      | inl t ↦ ltb-true i j t
      | inr e ↦ let m : b ^ j ≤ b ^ i = pow-le-pow_right h (ltb-false i j e) in absurd (omega (arith, m, l))
    ]

-- The fewest digits that spell a number.

first_digit : (f b x : ℕ) (bs : List ℕ) → list_all (is_digit f b) (x ∷ bs) ≡ true → b ^ length bs ≤ spelled f b (x ∷ bs) → f < x
first_digit f b x bs a l =
    let p = and_parts (is_digit f b x) (list_all (is_digit f b) bs) a in
    elim (cases_Bool (nat_lt f x)) [
      | inl t ↦ ltb-true f x t
      | inr e ↦
          let low : x ≤ f = ltb-false f x e in
          let none : 0 * b + (x - f) ≡ 0 = omega (arith, low) in
          let u = spelled_below f b (0 * b + (x - f)) bs p.1 in
          let v : spelled f b (x ∷ bs) < suc 0 * b ^ length bs = subst (λ (z : ℕ). spelled_behind f b (0 * b + (x - f)) bs < suc z * b ^ length bs) none u in
          absurd (omega (arith, v, l))
    ]

no_zero_first : (f b : ℕ) (text : List ℕ) (n j : ℕ) → list_all (is_digit f b) text ≡ true → length text ≡ suc j → spelled f b text ≡ n → b ^ j ≤ n → f < slice_index text 0
no_zero_first f b [] n j a l s h = absurd (omega (arith, l))
no_zero_first f b (x ∷ bs) n j a l s h =
    let e : j ≡ length bs = omega (arith, l) in
    first_digit f b x bs a (subst (λ (z : ℕ). b ^ length bs ≤ z) (sym s) (subst (λ (z : ℕ). b ^ z ≤ n) e h))

-- in as many digits as it needs
abbrev pub fewest : (first base number : ℕ) → List ℕ
fewest first base number = digits_of first base (count_within base number number) number

fewest_spells : (f b n : ℕ) → 2 ≤ b → spelled f b (fewest f b n) ≡ n
fewest_spells f b n two = digits_spell f b (count_within b n n) n (omega (arith, two)) (count_above b n n two (omega arith))

fewest_digits : (f b n : ℕ) → 2 ≤ b → list_all (is_digit f b) (fewest f b n) ≡ true
fewest_digits f b n two = all_digits f b (count_within b n n) n (omega (arith, two))

fewest_length : (f b n : ℕ) → length (fewest f b n) ≡ count_within b n n
fewest_length f b n = digits_length f b (count_within b n n) n

fewest_are_digits : (f b n : ℕ) → 2 ≤ b → are_digits f b (fewest f b n) ≡ true
fewest_are_digits f b n two =
    let l = fewest_length f b n in
    let m = count_at_least b n n in
    and_from (nat_le 1 (length (fewest f b n))) (list_all (is_digit f b) (fewest f b n)) (grind (arith, nat_tests, l, m)) (fewest_digits f b n two)

two_more : (c : ℕ) → 2 ≤ c → (j : ℕ) × (c ≡ suc (suc j))
two_more zero h = absurd (omega arith)
two_more (suc zero) h = absurd (omega arith)
two_more (suc (suc j)) h = (j, refl)

fewest_is_one : (f b n : ℕ) → 2 ≤ b → IsSpelling f b (fewest f b n) n
fewest_is_one f b n base =
    record {
      digits = fewest_are_digits f b n base;
      no_leading_zero =
          λ two.
          let l = fewest_length f b n in
          let c = two_more (count_within b n n) (subst (λ (z : ℕ). 2 ≤ z) l two) in
          no_zero_first f b (fewest f b n) n (suc c.0) (fewest_digits f b n base) (l ∙ c.1) (fewest_spells f b n base)
          (count_below b n n c.0 base (omega arith) c.1);
      spells = fewest_spells f b n base;
    }

digits_below : (f b : ℕ) (text : List ℕ) (n : ℕ) → list_all (is_digit f b) text ≡ true → spelled f b text ≡ n → n < b ^ length text
digits_below f b text n a s = let u = spelled_below f b 0 text a in omega (arith, u, s)

one_digit_at_least : (f b x : ℕ) → f < x → 1 ≤ 0 * b + (x - f)
one_digit_at_least f b x h = omega (arith, h)

digits_above : (f b : ℕ) (text : List ℕ) (n j : ℕ) → length text ≡ suc j → f < slice_index text 0 → spelled f b text ≡ n → b ^ j ≤ n
digits_above f b [] n j l h s = absurd (omega (arith, l))
digits_above f b (x ∷ bs) n j l h s =
    let e : length bs ≡ j = omega (arith, l) in
    let u = spelled_above f b (0 * b + (x - f)) bs in
    let d = one_digit_at_least f b x h in
    let m : b ^ length bs * 1 ≤ b ^ length bs * (0 * b + (x - f)) = mul-le-mul_left (b ^ length bs) d in
    let c = mul_comm (b ^ length bs) (0 * b + (x - f)) in
    let v : b ^ length bs ≤ n = omega (arith, u, m, c, s) in
    subst (λ (z : ℕ). b ^ z ≤ n) e v

one_more : (c : ℕ) → 1 ≤ c → (j : ℕ) × (c ≡ suc j)
one_more zero h = absurd (omega arith)
one_more (suc j) h = (j, refl)

same_count : (f b : ℕ) (text : List ℕ) (n : ℕ) → 2 ≤ b → IsSpelling f b text n → length text ≡ count_within b n n
same_count f b text n base h =
    let positive : 0 < b = omega (arith, base) in
    let p = and_parts (nat_le 1 (length text)) (list_all (is_digit f b) text) h.digits in
    let some : 1 ≤ length text = leb-true 1 (length text) p.0 in
    let has = count_at_least b n n in
    let t = one_more (length text) some in
    let c = one_more (count_within b n n) has in
    let below = digits_below f b text n p.1 h.spells in
    let above = count_above b n n base (omega arith) in
    let high : count_within b n n ≤ length text =
    elim (cases_Bool (nat_lt c.0 1)) [
      | inl k ↦ let q = ltb-true c.0 1 k in omega (arith, q, c.1, some)
      | inr k ↦
          let q = ltb-false c.0 1 k in
          let d = one_more c.0 q in
          let low = count_below b n n d.0 base (omega arith) (c.1 ∙ ap suc d.1) in
          let less : b ^ suc d.0 < b ^ length text = omega (arith, low, below) in
          let r = power_less b (suc d.0) (length text) positive less in
          omega (arith, r, c.1, d.1)
    ] in
    let low : length text ≤ count_within b n n =
    elim (cases_Bool (nat_lt t.0 1)) [
      | inl k ↦ let q = ltb-true t.0 1 k in omega (arith, q, t.1, has)
      | inr k ↦
          let q = ltb-false t.0 1 k in
          let two : 2 ≤ length text = omega (arith, q, t.1) in
          let least = digits_above f b text n t.0 t.1 (h.no_leading_zero two) h.spells in
          let less : b ^ t.0 < b ^ count_within b n n = omega (arith, least, above) in
          let r = power_less b t.0 (count_within b n n) positive less in
          omega (arith, r, t.1)
    ] in
    omega (arith, high, low)

fewest_no_other : (f b n : ℕ) (text : List ℕ) → 2 ≤ b → IsSpelling f b text n → text ≡ fewest f b n
fewest_no_other f b n text base h =
    let p = and_parts (nat_le 1 (length text)) (list_all (is_digit f b) text) h.digits in
    sym (digits_of_spelled f b text (omega (arith, base)) p.1)
    ∙ ap (λ (z : ℕ). digits_of f b (length text) z) h.spells
    ∙ ap (λ (z : ℕ). digits_of f b z n) (same_count f b text n base h)

-- Identifiers.

pub identifier_spells : (n : ℕ) → spelled 33 94 (identifier n) ≡ n
unfolding identifier
identifier_spells n = fewest_spells 33 94 n (omega arith)

pub identifier_digits : (n : ℕ) → list_all (is_digit 33 94) (identifier n) ≡ true
unfolding identifier
identifier_digits n = fewest_digits 33 94 n (omega arith)

pub identifier_length : (n : ℕ) → length (identifier n) ≡ identifier_count n
unfolding identifier
identifier_length n = fewest_length 33 94 n

pub identifier_are_digits : (n : ℕ) → are_digits 33 94 (identifier n) ≡ true
unfolding identifier
identifier_are_digits n = fewest_are_digits 33 94 n (omega arith)

pub number_back : (n : ℕ) → number_spelled (identifier n) ≡ n
unfolding number_spelled
number_back n = identifier_spells n

pub one_identifier : OneIdentifier
unfolding identifier
one_identifier =
    record {
      is_one = λ n. fewest_is_one 33 94 n (omega arith);
      no_other = λ n text h. fewest_no_other 33 94 n text (omega arith) h;
      reads_back = number_back;
    }

-- Numerals.

pub numeral_is_one : (n : ℕ) → IsSpelling 48 10 (numeral n) n
unfolding numeral
numeral_is_one n = fewest_is_one 48 10 n (omega arith)

pub numeral_no_other : (n : ℕ) (text : List ℕ) → IsSpelling 48 10 text n → text ≡ numeral n
unfolding numeral
numeral_no_other n text h = fewest_no_other 48 10 n text (omega arith) h
