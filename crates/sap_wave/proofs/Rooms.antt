-- How much room blocks take.
use Rattle.sap_lemmas.proofs.Common.{◌≡◌, ℕ, ◌+◌, ◌<◌, ◌≤◌, ◌^◌, List, [], ◌∷◌, Result, Ok, Err, length, length-append, get_or, drop, ap, arith, rules, inl, inr, OnErr, ◌==◌, decimal, cases_Bool, length-decimal-le}
use Rattle.std.specs.Prelude.{IsOk}
use Rattle.sap_text.specs.Places.{line}
use Rattle.sap_wave.specs.declared.variable.Variable.{Variable}
use Rattle.sap_wave.specs.Prelude.{identifier, numeral, block, form_text, text_of, block_of, changes, set_to, block_room, changes_room}
use Rattle.sap_wave.proofs.DigitsLemmas.{bits_read_back}
use Rattle.sap_wave.proofs.Formed.{numeral_is_decimal}
use Rattle.sap_wave.proofs.WrittenLines.{one_more}

-- of the variables from a place on
abbrev pub room_from : List Variable → ℕ → ℕ
room_from xs k = changes_room k (drop k xs)

pub room_more : (xs : List Variable) (k : ℕ) (x : Variable) → k < length xs → x ≡ get_or xs k x → room_from xs k ≡ x.width + length (identifier k) + 3 + room_from xs (k + 1)
room_more xs k x h e = ap (changes_room k) (one_more xs k x h e)

set_length : (k : ℕ) (x : Variable) (n : ℕ) → length (line (form_text (set_to k x n))) ≡ x.width + length (identifier k) + 3
set_length k x n =
    let w = bits_read_back.width x.width n in
    simp length-append (omega (arith, w))

changes_fit : (k : ℕ) (xs : List Variable) (ms ns : List ℕ) → length (text_of (changes k xs ms ns)) ≤ changes_room k xs
changes_fit k [] ms ns = omega arith
changes_fit k (x ∷ xs) [] ns = omega arith
changes_fit k (x ∷ xs) (m ∷ ms) [] = omega arith
changes_fit k (x ∷ xs) (m ∷ ms) (n ∷ ns) =
    let more = changes_fit (k + 1) xs ms ns in
    let here = set_length k x n in
    let both = length-append (line (form_text (set_to k x n))) (text_of (changes (k + 1) xs ms ns)) in
    elim (cases_Bool (m == n)) [
      | inl t ↦ rw t (omega (arith, more))
      | inr f ↦ rw f (omega (arith, more, here, both))
    ]

pub block_fits : (n : ℕ) (xs : List Variable) (before after : List ℕ) → n < 2 ^ 64 → length (text_of (block_of n xs before after)) ≤ block_room xs
block_fits n xs before after small =
    let printed : length (decimal n) ≤ 20 = length-decimal-le 20 n (omega arith) (omega arith) small in
    let digits : length (numeral n) ≤ 20 = rw (numeral_is_decimal n small) printed in
    let first : length (line (form_text (block (numeral n)))) ≤ 22 = simp length-append (omega (arith, digits)) in
    let rest = changes_fit 0 xs before after in
    let both = length-append (line (form_text (block (numeral n)))) (text_of (changes 0 xs before after)) in
    omega (arith, first, rest, both)

-- what fails only for want of room succeeds where there is room
pub ok_with_room : {T E : Type 0} (r : Result T E) (capacity wanted : ℕ) → OnErr r (capacity < wanted) → wanted ≤ capacity → IsOk r
ok_with_room (Ok v) capacity wanted full room = search rules
ok_with_room (Err e) capacity wanted full room = absurd (omega arith)
