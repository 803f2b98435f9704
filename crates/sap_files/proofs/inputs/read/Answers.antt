use Rattle.sap_lemmas.proofs.Common.{None, ap, Err}
use Rattle.sap_files.proofs.Fronts.{unread}
use Rattle.sap_files.proofs.inputs.read.Goals as goal

pub returns-in-Err-Failed-clause-read : goal.returns-in-Err-Failed-clause-read
returns-in-Err-Failed-clause-read g c =
    let cut = c.in-Err-Failed.ensures in
    let is = ap Err c.in-Err-Failed.field-0-is in
    unread None c.args.name.now _ _ (cut.failed is) (cut.stood is) (cut.counts.failed is) cut.counts.lost_stands cut.sure (cut.cause is)
