use Rattle.std.proofs.Common.{◌≡◌, drop, map}
use Rattle.sap_cycle.specs.Runs.{two_step}
use Rattle.sap_cycle.specs.Steps.{settled, AreReady}
use Rattle.sap_cycle.proofs.runs.settle_two.Given as goal

abbrev pub invariant-loop-step : goal.invariant-loop-step
invariant-loop-step l =
    (settled l.cells l.parts (map (two_step l.op) (drop l.step-index l.steps)) l.values ≡ settled l.cells l.parts (map (two_step l.op) l.steps) l.fn.values)
    × AreReady l.cells l.parts (map (two_step l.op) (drop l.step-index l.steps)) l.values
