use Rattle.sap_net.proofs.Exists.{cycle_exists}
use Rattle.sap_net.proofs.Same.{cycle_same}
use Rattle.sap_net.proofs.laws.one_cycle.Goals as goal

pub returns : goal.returns
returns c = record { some = cycle_exists c.args.netlist.now c.rules.ensures; one = cycle_same c.args.netlist.now c.rules.ensures }
