use Rattle.std.proofs.Common.{◌≡◌, List, map, take}
use Rattle.sap_cycle.specs.declared.steps.Step.{Step}
use Rattle.sap_cycle.specs.Instructions.{placed_step}
use Rattle.sap_cycle.specs.Runs.{operands_step}
use Rattle.sap_cycle.proofs.divide.alike.Given as goal

abbrev pub invariant-loop-step : goal.invariant-loop-step
invariant-loop-step l =
    (others : List Step) → map (operands_step l.operator) l.short.items ≡ map (placed_step others) (take l.step-index l.steps)
