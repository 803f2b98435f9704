use Rattle.sap_link.proofs.Compared.{compared}
use Rattle.sap_link.proofs.examples.compared_composites.Goals as goal

pub returns : goal.returns
returns c = compared
