use Rattle.sap_taint.proofs.Woven.{codes_are_woven}
use Rattle.sap_taint.proofs.laws.codes_are_woven.Goals as goal

pub returns : goal.returns
returns c = codes_are_woven
