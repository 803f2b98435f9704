use Rattle.sap_lemmas.proofs.Common.{◌≡◌, ◌-◌, ◌≤◌, true, length, take, list_all}
use Rattle.sap_wave.specs.Digits.{is_digit, spelled}
use Rattle.sap_wave.proofs.eights.eights_at.Given as goal

abbrev pub invariant-eights : goal.invariant-eights
invariant-eights l = record {
  within : l.count ≤ length l.text;
  digits : list_all (is_digit 48 2) (take l.count l.text) ≡ true;
  number : l.count ≤ 64 → l.number ≡ spelled 48 2 (take l.count l.text);
}

abbrev pub decreases-eights : goal.decreases-eights
decreases-eights l = length l.text - l.count
