use Rattle.sap_lemmas.proofs.Common.{◌≡◌, ◌-◌, ◌≤◌, length, take, true, is_ascii_digit, list_all, digits_value}
use Rattle.sap_stim.proofs.ahead.few_digits.Given as goal

-- with the digits so far
abbrev pub invariant-loop-count : goal.invariant-loop-count
invariant-loop-count l = record {
  within : l.count ≤ l.most;
  all : l.most ≤ length l.text;
  few : l.most ≤ 19;
  digits : list_all is_ascii_digit (take l.count l.text) ≡ true;
  number : l.number ≡ digits_value 10 (take l.count l.text);
}

abbrev pub decreases-loop-count : goal.decreases-loop-count
decreases-loop-count l = l.most - l.count
