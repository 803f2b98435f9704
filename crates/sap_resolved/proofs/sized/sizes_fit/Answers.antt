use Rattle.sap_resolved.proofs.sized.Programs.{sizes_fit_law}
use Rattle.sap_resolved.proofs.sized.sizes_fit.Goals as goal

pub returns : goal.returns
returns c = sizes_fit_law
