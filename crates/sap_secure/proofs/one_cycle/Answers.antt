use Rattle.sap_secure.proofs.Runs.{one_cycle_law}
use Rattle.sap_secure.proofs.one_cycle.Goals as goal

pub returns : goal.returns
returns c = one_cycle_law
