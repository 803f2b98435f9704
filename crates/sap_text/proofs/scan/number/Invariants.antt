use Rattle.sap_lemmas.proofs.Common.{◌≡◌, ◌<◌, ◌^◌, drop, digits_value_after}
use Rattle.sap_text.proofs.scan.number.Given as goal

abbrev pub invariant-digits : goal.invariant-digits
invariant-digits l = record { value : digits_value_after l.base 0 l.digits ≡ digits_value_after l.base l.n (drop l.d-index l.digits); fits : l.n < 2 ^ 64 }
