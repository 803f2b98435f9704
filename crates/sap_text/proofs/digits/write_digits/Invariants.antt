use Rattle.sap_lemmas.proofs.Common.{◌≡◌, ◌≤◌, ◌<◌, ◌^◌, ◌++◌, drop, length, decimal}
use Rattle.sap_text.proofs.digits.write_digits.Given as goal

-- the digits that are left stand before those that are written, and there is room for them
abbrev pub invariant-loop-left : goal.invariant-loop-left
invariant-loop-left l = record {
  text : decimal l.fn.number ≡ decimal l.left ++ drop l.start l.bytes;
  room : length (decimal l.left) ≤ l.start;
  within : l.start ≤ 20;
  small : l.left < 2 ^ 64;
}

abbrev pub decreases-loop-left : goal.decreases-loop-left
decreases-loop-left l = l.left
