use Rattle.sap_files.proofs.PrintedEnds.{failed_ends, memory_ends, printed_ends}
use Rattle.sap_files.proofs.printing.print_steps.Goals as goal

pub returns-in-Ok : goal.returns-in-Ok
returns-in-Ok g c =
    rw c.end.ensures (printed_ends (g.S.Steps.shows c.args.steps.now) (g.S.Steps.levels c.args.steps.now) (g.S.Steps.fields c.args.steps.now) c.args.stimulus.now c.in-Ok.fault _ _
    c.in-Ok.ensures.some c.in-Ok.ensures.done c.in-Ok.ensures.faults c.in-Ok.ensures.lost c.in-Ok.ensures.sure)

pub returns-in-Err-Call : goal.returns-in-Err-Call
returns-in-Err-Call g c =
    let is = c.in-Err-Call.field-0-is in
    rw c.blamed.ensures (failed_ends (g.S.Steps.shows c.args.steps.now) (g.S.Steps.levels c.args.steps.now)
    (g.S.Steps.fields c.args.steps.now) c.args.stimulus.now c.requires.whole c.in-Err-Call.why _ _
    (rw is at c.in-Err-Call.ensures.stopped) (rw is at c.in-Err-Call.ensures.cause) (rw is at c.in-Err-Call.ensures.faults) c.in-Err-Call.ensures.lost c.in-Err-Call.ensures.sure)

pub returns-in-Err-Memory : goal.returns-in-Err-Memory
returns-in-Err-Memory g c =
    let is = c.in-Err-Memory.field-0-is in
    memory_ends (g.S.Steps.shows c.args.steps.now) (g.S.Steps.levels c.args.steps.now) (g.S.Steps.fields c.args.steps.now) c.args.stimulus.now _ _
    (rw is at c.in-Err-Memory.ensures.stopped) (rw is at c.in-Err-Memory.ensures.faults) c.in-Err-Memory.ensures.lost c.in-Err-Memory.ensures.sure
