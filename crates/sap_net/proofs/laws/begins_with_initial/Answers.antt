use Rattle.sap_net.proofs.Beginning.{begins_with_initial}
use Rattle.sap_net.proofs.laws.begins_with_initial.Goals as goal

pub returns : goal.returns
returns c = begins_with_initial
