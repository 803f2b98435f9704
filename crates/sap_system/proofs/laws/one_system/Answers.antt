use Rattle.sap_system.proofs.Answered.{one_system}
use Rattle.sap_system.proofs.laws.one_system.Goals as goal

pub returns : goal.returns
returns c = one_system
