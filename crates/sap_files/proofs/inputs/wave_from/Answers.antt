use Rattle.sap_files.proofs.Dumps.{wave_unread}
use Rattle.sap_files.proofs.inputs.wave_from.Goals as goal

pub returns-in-Err : goal.returns-in-Err
returns-in-Err c =
    rw c.as_slice.ensures at (wave_unread c.as_slice.result.now c.in-Err.fault c.wave_failure.result c.wave_failure.ensures c.in-Err.ensures.fault)
