use Rattle.sap_linked.proofs.Computed.{ports_in_order, linked_is_netlist}
use Rattle.sap_linked.proofs.examples.two_parts.Goals as goal

pub returns : goal.returns
returns c = record { ports = ports_in_order; netlist = linked_is_netlist }
