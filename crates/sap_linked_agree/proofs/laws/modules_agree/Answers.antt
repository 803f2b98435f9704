use Rattle.sap_linked_agree.proofs.Agreeing.{modules_agree}
use Rattle.sap_linked_agree.proofs.laws.modules_agree.Goals as goal

pub returns : goal.returns
returns c = modules_agree c.runs_agree.ensures.first c.parts_run_alone.ensures c.states_keep.ensures.rest c.states_keep.ensures.fit c.well_formed_serves.ensures.fine
