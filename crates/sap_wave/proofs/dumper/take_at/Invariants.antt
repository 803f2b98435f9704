use Rattle.std.proofs.Common.{◌≡◌, Option, take, map}
use Rattle.sap_maps.specs.Maps.{Valuation}
use Rattle.sap_cycle.specs.Running.{Shows, seen}
use Rattle.sap_wave.specs.Runs.{variables_of}
use Rattle.sap_wave.proofs.dumper.take_at.Given as goal

-- the numbers so far
abbrev pub invariant-loop-k : goal.invariant-loop-k
invariant-loop-k l =
    (cycle : Option Valuation) → Shows l.runner cycle → take l.k l.numbers ≡ map (λ x. (seen l.runner.net cycle).value x.name) (take l.k (variables_of l.runner.net))
