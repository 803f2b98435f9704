-- On texts that stand in a name.
use Rattle.sap_lemmas.proofs.Common.{List, [], arith, refl, true, ℕ, ◌≡◌, ◌+◌, ◌^◌, ◌<◌, ◌++◌, ◌∷◌, decimal, list_all, ◌≤◌, length, take, IsUtf8, take-append-add, take-append_seam, and_from, and_parts, decimal_is_IsNumeral, length-append, length-take}
use Rattle.std.specs.Str.{is_utf8}
use Rattle.std.proofs.lemmas.Str.{is_utf8-from_IsUtf8}
use Rattle.sap_text.specs.Names.{is_inner}
use Rattle.sap_text.proofs.NamesLemmas.{numeral_inner}

-- a text in front of the room that is left
pub text_in_front : (text front rest : List ℕ) → front ≡ text → IsUtf8 text
    → (length text ≤ length (front ++ rest)) × (is_utf8 (take (length text) (front ++ rest)) ≡ true)
text_in_front text front rest e h = rw e (
  omega (arith, length-append text rest),
  rw (take-append_seam text rest) (is_utf8-from_IsUtf8 text h),
)

-- letters and a number, one behind the other in a row of bytes
pub in_row : (front back digits first second room rest : List ℕ) → first ≡ front → second ≡ back → back ≡ digits
    → take (length front + length back) (take (length front) (first ++ room) ++ (second ++ rest)) ≡ front ++ digits
in_row front back digits first second room rest a b d =
    rw (a, b, take-append_seam front room, take-append-add front (back ++ rest) (length back), take-append_seam back rest, d) refl

-- they are letters and digits
pub all_inner : (front : List ℕ) (k : ℕ) → k < 2 ^ 64 → list_all is_inner front ≡ true → list_all is_inner (front ++ decimal k) ≡ true
all_inner [] k small h = numeral_inner (decimal k) (decimal_is_IsNumeral k small).0.1
all_inner (x ∷ xs) k small h =
    let p = and_parts (is_inner x) (list_all is_inner xs) h in
    and_from (is_inner x) (list_all is_inner (xs ++ decimal k)) p.0 (all_inner xs k small p.1)

-- a row that starts with a text
pub row_is_text : (len : ℕ) (row text : List ℕ) → take len row ≡ text → IsUtf8 text → length text ≡ len
    → (len ≤ length row) × (is_utf8 (take len row) ≡ true)
row_is_text len row text e h l =
    let whole : length (take len row) ≡ length text = rw e refl in
    (omega (arith, whole, l, length-take len row), rw e (is_utf8-from_IsUtf8 text h))
