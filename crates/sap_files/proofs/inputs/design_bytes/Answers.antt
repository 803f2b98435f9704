use Rattle.sap_lemmas.proofs.Common.{ap, Err}
use Rattle.sap_files.proofs.Fronts.{front_unread, read_front_of}
use Rattle.sap_files.proofs.inputs.design_bytes.Goals as goal

pub returns-in-Ok : goal.returns-in-Ok
returns-in-Ok g c =
    let got = c.in-Ok.ensures in
    read_front_of c.args.name.now c.in-Ok.bytes _ _ (record { told = got.told; faults = got.counts.ok; lost = got.counts.lost_stands; sure = got.sure }) got.bytes

pub returns-in-Err-Failed : goal.returns-in-Err-Failed
returns-in-Err-Failed g c =
    let cut = c.in-Err-Failed.ensures in
    let is = ap Err c.in-Err-Failed.field-0-is in
    front_unread c.args.name.now _ _ (cut.failed is) (cut.stood is) (cut.counts.failed is) cut.counts.lost_stands cut.sure (cut.cause is)
