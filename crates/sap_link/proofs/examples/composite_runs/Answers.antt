use Rattle.sap_link.proofs.Computed.{free_input, fed, through_low, through_high, nothing_through, to_itself, exchanged, free_in_order}
use Rattle.sap_link.proofs.examples.composite_runs.Goals as goal

pub returns : goal.returns
returns c = record {
  free_input = free_input;
  fed = fed;
  through_low = through_low;
  through_high = through_high;
  nothing_through = nothing_through;
  to_itself = to_itself;
  exchanged = exchanged;
  free_in_order = free_in_order;
}
