use Rattle.sap_commands.proofs.Taints.{untagged}
use Rattle.sap_commands.proofs.taint.tagged.Goals as goal

pub returns-in-Ok : goal.returns-in-Ok
returns-in-Ok c =
    let t = c.in-Ok.ensures in
    (t.room, record { form = t.form; takes = t.takes; one_run = t.runs; shows = t.shows; codes = t.codes; agree = t.agree })

pub returns-in-Err : goal.returns-in-Err
returns-in-Err c = untagged c.args.netlist.now c.in-Err.fault c.taint_failure.result c.taint_failure.ensures c.in-Err.ensures.clash
