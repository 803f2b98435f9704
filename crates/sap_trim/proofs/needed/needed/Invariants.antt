use Rattle.sap_net.specs.IsNetlist.{names_of}
use Rattle.sap_trim.specs.Names.{port_names}
use Rattle.sap_trim.specs.Reads.{edge_reads}
use Rattle.sap_trim.proofs.Marked.{Keeping}
use Rattle.sap_trim.proofs.needed.needed.Given as goal

abbrev pub invariant-loop-rest : goal.invariant-loop-rest
invariant-loop-rest l = Keeping (names_of l.wires) (port_names l.netlist) (edge_reads l.netlist) l.wires l.rest l.read.items l.kept.items

abbrev pub decreases-loop-rest : goal.decreases-loop-rest
decreases-loop-rest l = l.rest
