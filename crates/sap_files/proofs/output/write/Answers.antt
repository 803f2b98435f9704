use Rattle.sap_lemmas.proofs.Common.{ap, Err}
use Rattle.sap_files.proofs.Ended.{cut_off}
use Rattle.sap_files.proofs.output.write.Goals as goal

pub returns-in-Err-Failed : goal.returns-in-Err-Failed
returns-in-Err-Failed g c =
    let cut = c.in-Err-Failed.ensures in
    let is = ap Err c.in-Err-Failed.field-0-is in
    rw c.as_slice.ensures at
    (cut_off c.args.name.now c.as_slice.result.now _ _ (cut.failed is) (cut.counts.failed is) cut.counts.lost_stands cut.sure (cut.cause is))
