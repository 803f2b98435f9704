use Rattle.sap_taint_pass.proofs.Small as tainted
use Rattle.sap_taint_pass.proofs.laws.tainted_is_small.Goals as goal

pub returns : goal.returns
returns c = tainted.is_small
