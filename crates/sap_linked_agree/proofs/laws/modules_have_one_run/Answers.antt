use Rattle.sap_linked_agree.proofs.Agreeing.{one_run}
use Rattle.sap_linked_agree.proofs.laws.modules_have_one_run.Goals as goal

pub returns : goal.returns
returns c = one_run
