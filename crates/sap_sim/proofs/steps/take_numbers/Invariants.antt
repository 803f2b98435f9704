use Rattle.std.proofs.Common.{◌≡◌, take, map}
use Rattle.sap_sim.specs.Layout.{number_from}
use Rattle.sap_sim.proofs.steps.take_numbers.Given as goal

-- the numbers so far
abbrev pub invariant-loop-k : goal.invariant-loop-k
invariant-loop-k l = take l.k l.numbers ≡ map (number_from l.lattice l.line) (take l.k l.sources)
