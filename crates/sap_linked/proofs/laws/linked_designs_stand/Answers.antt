use Rattle.sap_linked.proofs.Designs.{linked_designs_stand}
use Rattle.sap_linked.proofs.laws.linked_designs_stand.Goals as goal

pub returns : goal.returns
returns c = linked_designs_stand c.linked_designs_serve.ensures c.linked_nets_stand.ensures
