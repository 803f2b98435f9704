use Rattle.sap_link.proofs.Serving.{later_linked_runs_agree, linked_runs_agree}
use Rattle.sap_link.proofs.designs.runs_agree.Goals as goal

pub returns : goal.returns
returns c = record {
  later = later_linked_runs_agree c.linked_designs_serve.ensures c.runs_agree.ensures.later;
  first = linked_runs_agree c.linked_designs_serve.ensures c.runs_agree.ensures.first;
}
