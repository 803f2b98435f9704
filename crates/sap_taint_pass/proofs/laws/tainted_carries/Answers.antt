use Rattle.sap_taint_pass.proofs.FreeNames.{are_helping}
use Rattle.sap_taint_pass.proofs.Carries as tainted
use Rattle.sap_taint_pass.proofs.laws.tainted_carries.Goals as goal

pub returns : goal.returns
returns c = record { helping = are_helping; netlist = tainted.is_netlist; carries = tainted.carries }
