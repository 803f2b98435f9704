use Rattle.sap_ir.proofs.plain.Worked.{counts}
use Rattle.sap_ir.proofs.plain.examples.worked_run.Goals as goal

pub returns : goal.returns
returns c = counts
