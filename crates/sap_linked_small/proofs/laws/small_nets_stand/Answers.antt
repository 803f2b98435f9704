use Rattle.sap_linked_small.proofs.Designs.{small_designs_stand}
use Rattle.sap_linked_small.proofs.Standing.{small_nets_stand}
use Rattle.sap_linked_small.proofs.laws.small_nets_stand.Goals as goal

pub returns : goal.returns
returns c =
    let links = c.linked_net_links.ensures in
    let all = small_nets_stand c.linked_nets_stand.ensures links.links links.declares c.linked_net_is_netlist.ensures.all in
    record { all = all; designs = small_designs_stand c.linked_designs_serve.ensures all }
