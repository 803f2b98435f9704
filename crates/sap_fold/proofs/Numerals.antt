-- The number in the name of a helping wire, from its digits.
use Rattle.sap_lemmas.proofs.Common.{◌≡◌, ℕ, zero, suc, ◌+◌, ◌-◌, ◌*◌, ◌%◌, ◌^◌, ◌<◌, ◌≤◌, true, false, List, [], ◌∷◌, length, get_or, drop, sym, ap, ◌∙◌, arith, digit_value, is_ascii_digit, decimal, digits_value_after, drop-cons, nat_tests, decimal_is_IsNumeral, drop_past}
use Rattle.std.proofs.lemmas.Str.{digit_value_digit}
use Rattle.std.proofs.lemmas.Str.Parse.{digit_at}
use Rattle.sap_maps.specs.Maps.{Name}
use Rattle.sap_share.specs.Names.{helper}

-- a number that was read so far, and the bytes of the name before i: the digits behind them make k of it
abbrev pub Makes : (k i number : ℕ) → Type 0
Makes k i number = digits_value_after 10 number (drop (i - 1) (decimal k)) ≡ k

pub begun : (k : ℕ) → k < 2 ^ 64 → Makes k 0 0
begun k small = (decimal_is_IsNumeral k small).1

grows : (n : ℕ) (ds : List ℕ) → n ≤ digits_value_after 10 n ds
grows n [] = omega arith
grows n (d ∷ ds) = let h = grows (n * 10 + digit_value d) ds in omega arith

-- a digit of the number
digit_is : (k j : ℕ) → k < 2 ^ 64 → j < length (decimal k) → (48 ≤ get_or (decimal k) j 0) × (get_or (decimal k) j 0 ≤ 57)
digit_is k j small within = let r = digit_at (decimal k) j (decimal_is_IsNumeral k small).0.1 within in (omega (arith, r), omega (arith, r))

-- the byte in front is no digit, and all others are
pub passed : (k i number : ℕ) (name : Name) → k < 2 ^ 64 → name ≡ helper k → i < length name → is_ascii_digit (get_or name i 0) ≡ false → Makes k i number → Makes k (i + 1) number
unfolding helper
passed k zero number name small is within other makes = makes
passed k (suc j) number name small is within other makes =
    let behind : j < length (decimal k) = let e : length name ≡ suc (length (decimal k)) = ap length is in omega (arith, e, within) in
    let here : get_or name (suc j) 0 ≡ get_or (decimal k) j 0 = ap (λ (n : Name). get_or n (suc j) 0) is in
    let digit = digit_is k j small behind in
    let low : 48 ≤ get_or name (suc j) 0 = omega (arith, here, digit.0) in
    let high : get_or name (suc j) 0 ≤ 57 = omega (arith, here, digit.1) in
    absurd (grind (arith, nat_tests, other, low, high))

pub taken : (k i number more : ℕ) (name : Name) → k < 2 ^ 64 → name ≡ helper k → i < length name → is_ascii_digit (get_or name i 0) ≡ true
    → more ≡ (number * 10 % 2 ^ 64 + (get_or name i 0 - 48)) % 2 ^ 64 → Makes k i number → Makes k (i + 1) more
unfolding helper
taken k zero number more name small is within digit m makes =
    let here : get_or name 0 0 ≡ 110 = ap (λ (n : Name). get_or n 0 0) is in
    absurd (grind (arith, nat_tests, digit, here))
taken k (suc j) number more name small is within digit m makes =
    let behind : j < length (decimal k) = let e : length name ≡ suc (length (decimal k)) = ap length is in omega (arith, e, within) in
    let here : get_or name (suc j) 0 ≡ get_or (decimal k) j 0 = ap (λ (n : Name). get_or n (suc j) 0) is in
    let range = digit_is k j small behind in
    let value : digit_value (get_or (decimal k) j 0) + 48 ≡ get_or (decimal k) j 0 = digit_value_digit (get_or (decimal k) j 0) range in
    let place : j ≡ suc j - 1 = omega arith in
    let before : digits_value_after 10 number (drop j (decimal k)) ≡ k = ap (λ (i : ℕ). digits_value_after 10 number (drop i (decimal k))) place ∙ makes in
    let first : digits_value_after 10 number (drop j (decimal k)) ≡ digits_value_after 10 (number * 10 + digit_value (get_or (decimal k) j 0)) (drop (suc j) (decimal k))
    = ap (digits_value_after 10 number) (drop-cons (decimal k) j 0 behind) in
    let whole : digits_value_after 10 (number * 10 + digit_value (get_or (decimal k) j 0)) (drop (suc j) (decimal k)) ≡ k = sym first ∙ before in
    let fits = grows (number * 10 + digit_value (get_or (decimal k) j 0)) (drop (suc j) (decimal k)) in
    let same : more ≡ number * 10 + digit_value (get_or (decimal k) j 0) = omega (arith, m, here, value, fits, whole, small) in
    let next : suc j + 1 - 1 ≡ suc j = omega arith in
    rw (next, same) whole

pub ended : (k i number : ℕ) (name : Name) → name ≡ helper k → length name ≤ i → Makes k i number → number ≡ k
unfolding helper
ended k i number name is all makes =
    let e : length name ≡ suc (length (decimal k)) = ap length is in
    let past : length (decimal k) ≤ i - 1 = omega (arith, e, all) in
    sym (ap (digits_value_after 10 number) (drop_past (decimal k) (i - 1) past)) ∙ makes
