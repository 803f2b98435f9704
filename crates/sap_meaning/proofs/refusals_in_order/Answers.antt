use Rattle.sap_meaning.proofs.Rising.{sites_law}
use Rattle.sap_meaning.proofs.refusals_in_order.Goals as goal

pub returns : goal.returns
returns c = sites_law
