use Rattle.sap_resolved.proofs.kept.Hanging.{hangs_agree_law}
use Rattle.sap_resolved.proofs.kept.hangs_agree.Goals as goal

pub returns : goal.returns
returns c = hangs_agree_law
