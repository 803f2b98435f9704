use Rattle.std.proofs.Common.{◌≡◌, Option, take}
use Rattle.sap_maps.specs.Maps.{Valuation}
use Rattle.sap_cycle.specs.Running.{Shows, seen}
use Rattle.sap_sim.specs.Layout.{seen_at}
use Rattle.sap_sim.proofs.steps.take_seen.Given as goal

-- the numbers so far
abbrev pub invariant-loop-k : goal.invariant-loop-k
invariant-loop-k l = (cycle : Option Valuation) → Shows l.runner cycle → take l.k l.numbers ≡ seen_at l.runner.net (seen l.runner.net cycle) (take l.k l.places)
