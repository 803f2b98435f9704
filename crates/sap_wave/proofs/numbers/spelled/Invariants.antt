use Rattle.std.proofs.Common.{◌≡◌, take}
use Rattle.sap_wave.specs.Digits.{spelled}
use Rattle.sap_wave.proofs.numbers.spelled.Given as goal

abbrev pub invariant-loop-digit : goal.invariant-loop-digit
invariant-loop-digit l = l.number ≡ spelled 33 94 (take l.digit-index l.id)
