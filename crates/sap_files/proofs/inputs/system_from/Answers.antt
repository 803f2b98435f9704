use Rattle.sap_files.proofs.Systems.{system_unread}
use Rattle.sap_files.proofs.inputs.system_from.Goals as goal

pub returns-in-Err : goal.returns-in-Err
returns-in-Err c =
    rw c.as_slice.ensures at (system_unread c.as_slice.result.now c.in-Err.fault c.system_failure.result c.system_failure.ensures c.in-Err.ensures.refused)
