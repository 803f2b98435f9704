use Rattle.std.proofs.Common.{◌≡◌, ◌≤◌, ◌%◌, ◌++◌, drop}
use Rattle.sap_wave.specs.Digits.{digits_of}
use Rattle.sap_wave.proofs.digits.write_bits.Given as goal

-- the digits that are left stand before those that are written
abbrev pub invariant-loop-start : goal.invariant-loop-start
invariant-loop-start l = record {
  text : digits_of 48 2 64 l.fn.number ≡ digits_of 48 2 l.start l.left ++ drop l.start l.bytes;
  within : l.start ≤ 64;
  four : l.start % 4 ≡ 0;
}

abbrev pub decreases-loop-start : goal.decreases-loop-start
decreases-loop-start l = l.start
