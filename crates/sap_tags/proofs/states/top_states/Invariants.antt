use Rattle.std.proofs.Common.{◌≡◌, ◌+◌, drop}
use Rattle.sap_ir.specs.Plain.Views.{forest_of, planted}
use Rattle.sap_tags_terms.specs.Parts.{states_wires}
use Rattle.sap_tags.specs.Built.{tops_forest}
use Rattle.sap_tags.proofs.states.top_states.Given as goal

abbrev pub invariant-loop-one : goal.invariant-loop-one
invariant-loop-one l = record {
  states : planted (forest_of l.made.items) (tops_forest l.setting l.next (drop l.one-index l.states)) ≡ tops_forest l.setting 0 l.states;
  wires : l.next + states_wires (drop l.one-index l.states) ≡ states_wires l.states;
}
