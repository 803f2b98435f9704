-- Runs of bytes, and numbers.
use Rattle.sap_lemmas.proofs.Common.{◌≡◌, ◌<◌, ◌≤◌, ◌+◌, ◌*◌, ℕ, List, [], ◌∷◌, length, drop, get_or, arith, at_drop_more, at_drop_all, digit_value, digits_value_after}
use Rattle.std.proofs.lemmas.List.Sums.{prefix_len-drop_yes, prefix_len-drop_no, prefix_len-drop_all}
use Rattle.sap_lemmas.proofs.Numbers.{le_product}

pub ruleset runs = (prefix_len-drop_yes, prefix_len-drop_no, prefix_len-drop_all)

pub value_more : (base n : ℕ) (digits : List ℕ) (i : ℕ) → i < length digits
    → digits_value_after base n (drop i digits) ≡ digits_value_after base (n * base + digit_value (get_or digits i 0)) (drop (i + 1) digits)
value_more base n digits i h = at_drop_more (digits_value_after base n) digits i 0 h

pub value_all : (base n : ℕ) (digits : List ℕ) (i : ℕ) → length digits ≤ i → digits_value_after base n (drop i digits) ≡ n
value_all base n digits i h = at_drop_all (digits_value_after base n) digits i h

pub value_grows : (base n : ℕ) (digits : List ℕ) → 1 ≤ base → n ≤ digits_value_after base n digits
value_grows base n [] h = omega arith
value_grows base n (d ∷ digits) h = omega (arith, value_grows base (n * base + digit_value d) digits h, le_product n base h)

pub ruleset digits = (value_grows, value_more, value_all)
