use Rattle.std.proofs.Common.{◌≡◌, take}
use Rattle.sap_wave_rows.specs.Places.{numbers_at}
use Rattle.sap_wave_rows.proofs.rows.take_numbers.Given as goal

-- the numbers so far
abbrev pub invariant-loop-k : goal.invariant-loop-k
invariant-loop-k l = take l.k l.seen ≡ numbers_at l.numbers (take l.k l.places)
