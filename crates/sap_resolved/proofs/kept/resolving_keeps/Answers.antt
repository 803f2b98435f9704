use Rattle.sap_resolved.proofs.kept.Designs.{kept}
use Rattle.sap_resolved.proofs.kept.resolving_keeps.Goals as goal

pub returns : goal.returns
returns c = kept
