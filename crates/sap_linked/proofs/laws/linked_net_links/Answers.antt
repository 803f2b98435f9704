use Rattle.sap_linked.proofs.SideBySide.{linked_net_links}
use Rattle.sap_linked.proofs.Declaring.{linked_net_declares}
use Rattle.sap_linked.proofs.laws.linked_net_links.Goals as goal

pub returns : goal.returns
returns c = record { links = linked_net_links; declares = linked_net_declares }
