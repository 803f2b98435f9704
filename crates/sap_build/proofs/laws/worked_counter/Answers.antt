use Rattle.sap_build.proofs.CounterWritten.{counter_is_netlist}
use Rattle.sap_build.proofs.laws.worked_counter.Goals as goal

pub returns : goal.returns
returns c = counter_is_netlist
