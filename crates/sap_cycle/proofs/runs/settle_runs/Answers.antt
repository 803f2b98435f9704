use Rattle.std.proofs.Common.{◌+◌, drop}
use Rattle.sap_cycle.specs.Runs.{steps_of_runs}
use Rattle.sap_cycle.specs.Steps.{settled}
use Rattle.sap_cycle.proofs.Ends.{next_run, run_ready, run_more}
use Rattle.sap_cycle.proofs.runs.settle_runs.Goals as goal

pub settle_run-requires : goal.settle_run-requires
settle_run-requires c =
    let a = c.args in
    let l = c.loop-run in
    let whole = settled a.cells.now a.parts.now (steps_of_runs a.others.now a.runs.now) a.values.now in
    let next = next_run a.runs.now l.run-index c.run-item.result c.loop-run-test.true c.run-item.is in
    run_ready a.cells.now a.parts.now a.others.now whole c.run-item.result (drop l.run-index a.runs.now) (drop (l.run-index + 1) a.runs.now) l.values l.invariant next

pub loop-run-preserved : goal.loop-run-preserved
loop-run-preserved c =
    let a = c.args in
    let l = c.loop-run in
    let whole = settled a.cells.now a.parts.now (steps_of_runs a.others.now a.runs.now) a.values.now in
    let next = next_run a.runs.now l.run-index c.run-item.result c.loop-run-test.true c.run-item.is in
    run_more a.cells.now a.parts.now a.others.now whole c.run-item.result (drop l.run-index a.runs.now) (drop (l.run-index + 1) a.runs.now)
    l.values c.settle_run.new.values l.invariant next c.settle_run.ensures
