use Rattle.sap_files.proofs.Reading.{front_fails}
use Rattle.sap_files.proofs.inputs.read_design.Goals as goal

pub returns-in-Err : goal.returns-in-Err
returns-in-Err g c = front_fails c.in-Err.failure c.design_failure.result c.design_failure.ensures c.in-Err.ensures
