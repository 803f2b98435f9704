use Rattle.std.proofs.Common.{◌≡◌, drop, map}
use Rattle.sap_cycle.specs.declared.operands.Operator.TheVariants as operator
use Rattle.sap_cycle.specs.Runs.{operands_step}
use Rattle.sap_cycle.specs.Steps.{settled, AreReady}
use Rattle.sap_cycle.proofs.runs.settle_choices.Given as goal

abbrev pub invariant-loop-step : goal.invariant-loop-step
invariant-loop-step l =
    (settled l.cells l.parts (map (operands_step operator.Choose) (drop l.step-index l.steps)) l.values
    ≡ settled l.cells l.parts (map (operands_step operator.Choose) l.steps) l.fn.values)
    × AreReady l.cells l.parts (map (operands_step operator.Choose) (drop l.step-index l.steps)) l.values
