use Rattle.sap_lemmas.proofs.Common.{◌≡◌, ◌-◌, ◌≤◌, true, length, take, list_all}
use Rattle.sap_wave.specs.Digits.{is_digit, spelled}
use Rattle.sap_wave.proofs.numbers.id_at.Given as goal

abbrev pub invariant-digits : goal.invariant-digits
invariant-digits l = record {
  within : l.count ≤ length l.text;
  digits : list_all (is_digit 33 94) (take l.count l.text) ≡ true;
  number : l.count ≤ 9 → l.number ≡ spelled 33 94 (take l.count l.text);
}

abbrev pub decreases-digits : goal.decreases-digits
decreases-digits l = length l.text - l.count
