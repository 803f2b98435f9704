use Rattle.sap_linked_agree.proofs.Agreeing.{systems_agree}
use Rattle.sap_linked_agree.proofs.laws.systems_agree.Goals as goal

pub returns : goal.returns
returns c = systems_agree c.runs_agree.ensures.first
