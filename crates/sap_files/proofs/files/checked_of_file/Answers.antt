use Rattle.sap_files.proofs.Reading.{checked_fails}
use Rattle.sap_files.proofs.files.checked_of_file.Goals as goal

pub returns-in-Err : goal.returns-in-Err
returns-in-Err g c = checked_fails c.args.lattice.now c.in-Err.failure c.design_failure.result c.design_failure.ensures c.in-Err.ensures
