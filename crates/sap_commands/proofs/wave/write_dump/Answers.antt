use Rattle.sap_lemmas.proofs.Common.{ap, Err}
use Rattle.sap_files.proofs.Ended.{cut_off, starved, wrote}
use Rattle.sap_commands.proofs.Waves.{written_whole}
use Rattle.sap_commands.proofs.wave.write_dump.Goals as goal

pub returns-in-Ok : goal.returns-in-Ok
returns-in-Ok g c =
    let done = c.in-Ok.ensures in
    let (text, dump, told) = done.ok in
    wrote text dump (written_whole c.args.out.now text _ _ told done.counts.ok done.counts.lost_stands done.sure)

pub returns-in-Err-Failed : goal.returns-in-Err-Failed
returns-in-Err-Failed g c =
    let cut = c.in-Err-Failed.ensures in
    let is = ap Err c.in-Err-Failed.field-0-is in
    let (text, dump, told, full) = cut.failed is in
    wrote text dump (cut_off c.args.out.now text _ _ told (cut.counts.failed is) cut.counts.lost_stands cut.sure full)

pub returns-in-Err-Memory : goal.returns-in-Err-Memory
returns-in-Err-Memory g c =
    let want = c.in-Err-Memory.ensures in
    let is = ap Err c.in-Err-Memory.field-0-is in
    starved _ (record { told = want.memory is; faults = want.counts.memory is; lost = want.counts.lost_stands; sure = want.sure })
