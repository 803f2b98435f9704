use Rattle.sap_system.proofs.Worked.{two_parts}
use Rattle.sap_system.proofs.examples.worked_files.Goals as goal

pub returns : goal.returns
returns c = two_parts
