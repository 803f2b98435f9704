use Rattle.std.proofs.Common.{drop}
use Rattle.sap_cycle.specs.Runs.{steps_of_runs}
use Rattle.sap_cycle.specs.Steps.{settled}
use Rattle.sap_cycle.proofs.Ends.{Left}
use Rattle.sap_cycle.proofs.runs.settle_runs.Given as goal

abbrev pub invariant-loop-run : goal.invariant-loop-run
invariant-loop-run l =
    Left l.cells l.parts l.others (settled l.cells l.parts (steps_of_runs l.others l.runs) l.fn.values) (drop l.run-index l.runs) l.values
