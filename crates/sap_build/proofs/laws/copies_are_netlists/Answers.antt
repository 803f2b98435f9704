use Rattle.sap_build.proofs.Copied.{copy_is_netlist}
use Rattle.sap_build.proofs.laws.copies_are_netlists.Goals as goal

pub returns : goal.returns
returns c = copy_is_netlist
