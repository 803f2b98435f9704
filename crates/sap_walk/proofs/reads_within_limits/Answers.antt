use Rattle.sap_walk.proofs.Laws.{reads_within}
use Rattle.sap_walk.proofs.reads_within_limits.Goals as goal

pub returns : goal.returns
returns g c = reads_within _ _ _ _ _
