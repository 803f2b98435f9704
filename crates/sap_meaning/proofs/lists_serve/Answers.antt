use Rattle.sap_meaning.proofs.Listed.{lists_law}
use Rattle.sap_meaning.proofs.lists_serve.Goals as goal

pub returns : goal.returns
returns c = lists_law
