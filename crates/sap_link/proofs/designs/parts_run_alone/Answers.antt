use Rattle.sap_link.proofs.Serving.{parts_of_linked_run}
use Rattle.sap_link.proofs.designs.parts_run_alone.Goals as goal

pub returns : goal.returns
returns c = parts_of_linked_run c.linked_designs_serve.ensures c.states_keep.ensures.fit c.parts_run_alone.ensures.alone c.parts_run_alone.ensures.fit
