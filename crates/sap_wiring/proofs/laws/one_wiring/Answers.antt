use Rattle.sap_wiring.proofs.Fitting.{one_wiring}
use Rattle.sap_wiring.proofs.laws.one_wiring.Goals as goal

pub returns : goal.returns
returns c = one_wiring
