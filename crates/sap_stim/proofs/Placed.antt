-- Texts in an array of bytes, one behind another.
use Rattle.sap_lemmas.proofs.Common.{◌≡◌, ◌≤◌, ◌<◌, ◌+◌, ◌^◌, ℕ, List, [], ◌∷◌, ◌++◌, take, length, ap, ap₂, sym, subst, set, ◌*◌, get_or, ◌∙◌, append_assoc, Option, Some, None, ◌⊎◌, inl, inr, arith, IfSome, ◌/◌, ◌%◌, decimal, take-append-add, decimal_digit, decimal_step, length-take-le, take-append-le, take_more_set, cases_lt}
use Rattle.std.proofs.Common.{length-set}
use Rattle.std.proofs.lemmas.List.{append_cancel_right}
use Rattle.std.proofs.lemmas.Grind.{take-set_at}
use Rattle.sap_text.proofs.PairsOfDigits.{last_two, pair_at, pair_of, two_digits}
use Rattle.sap_stim.specs.declared.flat.TheConstants.{PAIRS}

-- two bytes that are set one behind the other
pub two_set : (bytes : List ℕ) (at a b x y : ℕ) → at + 2 ≤ length bytes → a ≡ x → b ≡ y
    → take (at + 2) (set (set bytes at a) (at + 1) b) ≡ take at bytes ++ x ∷ y ∷ []
two_set bytes at a b x y within p q =
    take-set_at (set bytes at a) (at + 1) (at + 2) b (omega arith) (omega (arith, within, length-set bytes at a))
    ∙ ap (λ l. l ++ b ∷ []) (take_more_set bytes at a (omega (arith, within)))
    ∙ append_assoc (take at bytes) (a ∷ []) (b ∷ [])
    ∙ ap₂ (λ m n. take at bytes ++ m ∷ n ∷ []) p q

-- the table of pairs holds the two digits of each number below 100
pub pair_there : (p : ℕ) → p < 100 → (get_or PAIRS (p * 2) 0 ≡ 48 + p / 10) × (get_or PAIRS (p * 2 + 1) 0 ≡ 48 + p % 10)
pair_there p small = pair_at p small

-- two digits behind those of a number
pub then_pair : (n q pair at end : ℕ) (start mid new : List ℕ) → 100 ≤ n → n < 2 ^ 64 → n / 100 ≡ q → pair ≡ n % 100 → take at mid ≡ start ++ decimal q
    → take end new ≡ take at mid ++ pair_of pair → take end new ≡ start ++ decimal n
then_pair n q pair at end start mid new big small e is p r =
    r ∙ ap (λ k. take at mid ++ pair_of k) is ∙ ap (λ l. l ++ pair_of (n % 100)) (p ∙ ap (λ k. start ++ decimal k) (sym e))
    ∙ append_assoc start (decimal (n / 100)) (pair_of (n % 100))
    ∙ ap (λ l. start ++ l) (sym (last_two n big small))

-- the two digits of a number
pub one_pair : (n end : ℕ) (start new : List ℕ) → 10 ≤ n → n < 100 → take end new ≡ start ++ pair_of n → take end new ≡ start ++ decimal n
one_pair n end start new more few p = p ∙ ap (λ l. start ++ l) (sym (two_digits n more few))

-- the one digit of a number
pub one_digit : (n end : ℕ) (start new : List ℕ) → n < 10 → take end new ≡ start ++ (48 + n) ∷ [] → take end new ≡ start ++ decimal n
one_digit n end start new small p = p ∙ ap (λ l. start ++ l) (sym (decimal_digit n small))

-- a text behind a place, of what was written there
pub written : (at len : ℕ) (old bytes rest : List ℕ) → at ≤ length old → len ≤ length bytes → take (at + len) (take at old ++ (bytes ++ rest)) ≡ take at old ++ take len bytes
written at len old bytes rest within short =
    ap (λ k. take (k + len) (take at old ++ (bytes ++ rest))) (sym (length-take-le at old within))
    ∙ take-append-add (take at old) (bytes ++ rest) len
    ∙ ap (λ l. take at old ++ l) (take-append-le len bytes rest short)

-- another last digit in place of one
other_last : (start rest tens : List ℕ) (d e : ℕ) → start ++ d ∷ [] ≡ rest ++ (tens ++ d ∷ []) → start ++ e ∷ [] ≡ rest ++ (tens ++ e ∷ [])
other_last start rest tens d e p =
    ap (λ l. l ++ e ∷ []) (append_cancel_right start (rest ++ tens) (d ∷ []) (p ∙ sym (append_assoc rest tens (d ∷ []))))
    ∙ append_assoc rest tens (e ∷ [])

-- the digits of a number before its last one
abbrev tens_of : (n : ℕ) → (n < 10) ⊎ (10 ≤ n) → List ℕ
tens_of n (inl one) = []
tens_of n (inr more) = decimal (n / 10)

with_tens : (n : ℕ) (some : (n < 10) ⊎ (10 ≤ n)) → n < 2 ^ 64 → decimal n ≡ tens_of n some ++ (48 + n % 10) ∷ []
with_tens n (inl one) small = decimal_digit n one ∙ ap (λ k. (48 + k) ∷ []) (omega (arith, one))
with_tens n (inr more) small = decimal_step n more small

next_with_tens : (n : ℕ) (some : (n < 10) ⊎ (10 ≤ n)) → n % 10 < 9 → n + 1 < 2 ^ 64 → decimal (n + 1) ≡ tens_of n some ++ (48 + (n + 1) % 10) ∷ []
next_with_tens n (inl one) low small = decimal_digit (n + 1) (omega (arith, low, one)) ∙ ap (λ k. (48 + k) ∷ []) (omega (arith, low, one))
next_with_tens n (inr more) low small =
    decimal_step (n + 1) (omega (arith, more)) small ∙ ap (λ k. decimal k ++ (48 + (n + 1) % 10) ∷ []) (omega (arith, low))

-- what stands before the last digit of a number stands before that of the next one too, where that digit isn't 9
pub then_next : (n : ℕ) (start rest : List ℕ) → n % 10 < 9 → n + 1 < 2 ^ 64 → start ++ (48 + n % 10) ∷ [] ≡ rest ++ decimal n
    → start ++ (48 + (n + 1) % 10) ∷ [] ≡ rest ++ decimal (n + 1)
then_next n start rest low small p =
    let some = cases_lt n 10 in
    other_last start rest (tens_of n some) (48 + n % 10) (48 + (n + 1) % 10) (p ∙ ap (λ l. rest ++ l) (with_tens n some (omega (arith, small))))
    ∙ ap (λ l. rest ++ l) (sym (next_with_tens n some low small))

-- the same where there may be none
pub turned : (o : Option (List ℕ)) (n m digit : ℕ) (rest : List ℕ) → digit ≡ n % 10 → digit < 9 → m ≡ n + 1 → m < 2 ^ 64
    → IfSome o (λ s. s ++ (48 + n % 10) ∷ [] ≡ rest ++ decimal n) → IfSome o (λ s. s ++ (48 + m % 10) ∷ [] ≡ rest ++ decimal m)
turned None n m digit rest is low next small p = tt
turned (Some s) n m digit rest is low next small p =
    subst (λ k. s ++ (48 + k % 10) ∷ [] ≡ rest ++ decimal k) (sym next) (then_next n s rest (omega (arith, is, low)) (omega (arith, next, small)) p)

-- a text before the one digit of a number
pub before_one : (n : ℕ) (start rest : List ℕ) → n < 10 → n < 2 ^ 64 → start ≡ rest → start ++ (48 + n % 10) ∷ [] ≡ rest ++ decimal n
before_one n start rest one small p = ap (λ l. l ++ (48 + n % 10) ∷ []) p ∙ ap (λ l. rest ++ l) (sym (with_tens n (inl one) small))

-- a text and all digits of a number before its last one
pub before_last : (o : Option ℕ) (n at : ℕ) (mid new rest : List ℕ) → 10 ≤ n → n < 2 ^ 64 → take at mid ≡ rest
    → IfSome o (λ e. take e new ≡ take at mid ++ decimal (n / 10)) → IfSome o (λ e. take e new ++ (48 + n % 10) ∷ [] ≡ rest ++ decimal n)
before_last None n at mid new rest more small p q = tt
before_last (Some e) n at mid new rest more small p q =
    ap (λ l. l ++ (48 + n % 10) ∷ []) (q ∙ ap (λ l. l ++ decimal (n / 10)) p) ∙ append_assoc rest (decimal (n / 10)) ((48 + n % 10) ∷ [])
    ∙ ap (λ l. rest ++ l) (sym (with_tens n (inr more) small))
