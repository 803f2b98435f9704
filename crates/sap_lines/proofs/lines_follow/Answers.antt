use Rattle.sap_lines.proofs.Following.{begins, begins_some, goes_on, goes_on_some, ends, ends_some, stops, stops_some}
use Rattle.sap_lines.proofs.lines_follow.Goals as goal

pub returns : goal.returns
returns c = record {
  begins = begins;
  goes_on = goes_on;
  ends = ends;
  stops = stops;
  begins_some = begins_some;
  goes_on_some =
      goes_on_some;
  ends_some = ends_some;
  stops_some = stops_some;
}
