use Rattle.std.proofs.Common.{◌≡◌, ◌≤◌, ◌+◌, length}
use Rattle.sap_trim.specs.Alike.{DeclaresAlike, RunsAlike}
use Rattle.sap_trim.specs.Few.{calculated, most_left}
use Rattle.sap_trim.specs.Folded.{IsFolded}
use Rattle.sap_trim.specs.Names.{shown_wires}
use Rattle.sap_trim.specs.Needed.{MarksNeeded}
use Rattle.sap_trim.proofs.trim.fold.Given as goal

abbrev pub invariant-loop-round : goal.invariant-loop-round
invariant-loop-round l = record {
  declares : DeclaresAlike l.fn.netlist l.small;
  same : RunsAlike l.fn.netlist l.small;
  folded : IsFolded l.small;
  kept : MarksNeeded l.small l.kept.items;
  left : l.left ≡ most_left l.small;
  few : most_left l.small ≤ length (calculated l.fn.netlist.wires) + length (shown_wires l.fn.netlist);
}
