use Rattle.sap_secure.proofs.Unseen.{confinement_law}
use Rattle.sap_secure.proofs.confinement.Goals as goal

pub returns : goal.returns
returns c = confinement_law
