use Rattle.sap_link.proofs.Composites.{later_law, first_law}
use Rattle.sap_link.proofs.runs_agree.Goals as goal

pub returns : goal.returns
returns c = record {
  later = later_law c.one_cycle.ensures c.states_keep.ensures.rest;
  first = first_law c.one_cycle.ensures c.states_keep.ensures.rest;
}
