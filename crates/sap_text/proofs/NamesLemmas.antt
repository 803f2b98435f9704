-- On letters, digits and names.
use Rattle.sap_lemmas.proofs.Common.{List, [], arith, refl, true, ℕ, ◌∷◌, ◌≡◌, is_ascii_digit, list_all, ◌<◌, slice_index, zero, suc, IsUtf8, and_from, and_parts, nat_tests}
use Rattle.std.specs.Str.Parse.{AllDigits}
use Rattle.std.proofs.lemmas.Str.{IsUtf8-from_ascii}
use Rattle.sap_lemmas.proofs.Texts.{digit_of_value}
use Rattle.sap_text.specs.Names.{is_initial, is_inner, is_word}

pub digit_inner : (c : ℕ) → is_ascii_digit c ≡ true → is_inner c ≡ true
digit_inner c h = grind (arith, nat_tests)

pub initial_inner : (c : ℕ) → is_initial c ≡ true → is_inner c ≡ true
initial_inner c h = grind (arith, nat_tests)

pub digits_inner : (ds : List ℕ) → list_all is_ascii_digit ds ≡ true → list_all is_inner ds ≡ true
digits_inner [] h = refl
digits_inner (d ∷ ds) h =
    let p = and_parts (is_ascii_digit d) (list_all is_ascii_digit ds) h in
    and_from (is_inner d) (list_all is_inner ds) (digit_inner d p.0) (digits_inner ds p.1)

-- digits, by their values
pub numeral_inner : (ds : List ℕ) → AllDigits 10 ds → list_all is_inner ds ≡ true
numeral_inner [] a = refl
numeral_inner (d ∷ ds) a = and_from (is_inner d) (list_all is_inner ds) (digit_inner d (digit_of_value d a.0)) (numeral_inner ds a.1)

pub word_inner : (cs : List ℕ) → is_word cs ≡ true → list_all is_inner cs ≡ true
word_inner [] h = refl
word_inner (c ∷ cs) h =
    let p = and_parts (is_initial c) (list_all is_inner cs) h in
    and_from (is_inner c) (list_all is_inner cs) (initial_inner c p.0) p.1

inner_ascii : (c : ℕ) → is_inner c ≡ true → c < 128
inner_ascii c h = grind (arith, nat_tests)

all_ascii : (cs : List ℕ) → list_all is_inner cs ≡ true → (i : ℕ) → slice_index cs i < 128
all_ascii [] h i = grind (arith)
all_ascii (c ∷ cs) h zero = inner_ascii c (and_parts (is_inner c) (list_all is_inner cs) h).0
all_ascii (c ∷ cs) h (suc i) = all_ascii cs (and_parts (is_inner c) (list_all is_inner cs) h).1 i

-- letters, digits and `_` are a text
pub inner_text : (cs : List ℕ) → list_all is_inner cs ≡ true → IsUtf8 cs
inner_text cs h = IsUtf8-from_ascii cs (all_ascii cs h)
