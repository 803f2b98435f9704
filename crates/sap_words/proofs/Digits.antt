-- Few digits are read as a number.
use Rattle.sap_lemmas.proofs.Common.{◌≡◌, ◌<◌, ◌≤◌, ◌^◌, ℕ, List, true, length, rules, arith, Result, Err, is_ascii_digit, list_all, digits_value}
use Rattle.std.specs.Str.Parse.{ParsesUnsigned}
use Rattle.std.proofs.lemmas.Result.{OkIff-at_err}
use Rattle.std.proofs.lemmas.Str.Parse.{IsDigitsTest, IsNumeralModel, digits_value_short, numerals_by_value, parse_digits}
use Rattle.sap_words.specs.Words.{are_few_digits}

abbrev AreDigits : List ℕ → Type 0
AreDigits ds = list_all is_ascii_digit ds ≡ true

tells : IsDigitsTest AreDigits
tells = search rules

own : IsNumeralModel AreDigits (digits_value 10)
own = numerals_by_value AreDigits tells

pub no_error : {E : Type 0} (ds : List ℕ) (r : Result ℕ E) (e : E) → ParsesUnsigned 32 10 ds r → are_few_digits ds ≡ true → r ≡ Err e → ⊥
no_error ds r e h few is =
    let digits : AreDigits ds = grind (arith, few) in
    let some : 0 < length ds = grind (arith, few) in
    let short : length ds ≤ 4 = grind (arith, few) in
    let small : digits_value 10 ds < 10 ^ 4 = digits_value_short own ds 4 digits short in
    OkIff-at_err r _ _ e (parse_digits own 32 ds r h digits) is (some, omega (arith, small))
