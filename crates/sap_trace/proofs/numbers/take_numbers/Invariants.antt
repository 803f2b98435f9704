use Rattle.std.proofs.Common.{◌≡◌, ◌*◌, take}
use Rattle.sap_trace.specs.Given.{given}
use Rattle.sap_trace.proofs.numbers.take_numbers.Given as goal

-- the numbers so far
abbrev pub invariant-loop-k : goal.invariant-loop-k
invariant-loop-k l = take (2 * l.k) l.numbers ≡ given l.lattice (take l.k l.line)
