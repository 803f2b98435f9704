use Rattle.sap_linked.proofs.Declared.{parts_declare}
use Rattle.sap_linked.proofs.laws.parts_declare.Goals as goal

pub returns : goal.returns
returns c = parts_declare
