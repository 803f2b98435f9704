use Rattle.sap_resolved.proofs.sized.Programs.{names_fit_law}
use Rattle.sap_resolved.proofs.sized.names_fit.Goals as goal

pub returns : goal.returns
returns c = names_fit_law
