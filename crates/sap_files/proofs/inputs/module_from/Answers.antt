use Rattle.sap_files.proofs.Modules.{module_unread}
use Rattle.sap_files.proofs.inputs.module_from.Goals as goal

pub returns-in-Err : goal.returns-in-Err
returns-in-Err c =
    rw c.as_slice.ensures at (module_unread c.as_slice.result.now c.in-Err.fault c.module_failure.result c.module_failure.ensures c.in-Err.ensures.refused)
