use Rattle.sap_files.proofs.Designs.{text_unread}
use Rattle.sap_files.proofs.inputs.text_from.Goals as goal

pub returns-in-Err : goal.returns-in-Err
returns-in-Err c =
    rw c.as_slice.ensures at (text_unread c.as_slice.result.now c.in-Err.fault c.read_failure.result c.read_failure.ensures c.in-Err.ensures.fault)
