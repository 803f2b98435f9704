use Rattle.sap_taint.proofs.Compared.{compared}
use Rattle.sap_taint.proofs.examples.compared_taint.Goals as goal

pub returns : goal.returns
returns c = compared
