use Rattle.sap_linked.proofs.Designs.{linked_designs_are_netlists}
use Rattle.sap_linked.proofs.Rules.{linked_net_is_netlist}
use Rattle.sap_linked.proofs.laws.linked_net_is_netlist.Goals as goal

pub returns : goal.returns
returns c =
    let all = linked_net_is_netlist c.copies_are_netlists.ensures in
    record { all = all; designs = linked_designs_are_netlists all }
