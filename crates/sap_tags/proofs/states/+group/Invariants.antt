use Rattle.std.proofs.Common.{◌≡◌, ◌+◌, ◌*◌, drop}
use Rattle.sap_ir.specs.Plain.Views.{forest_of, planted}
use Rattle.sap_tags_terms.specs.Parts.{state_wires, states_wires}
use Rattle.sap_tags.specs.Built.{states_forest}
use Rattle.sap_tags.proofs.states.+group.Given as goal

abbrev pub decreases-state : goal.decreases-state
decreases-state l = 2 * state_wires l.state.now

abbrev pub decreases-states : goal.decreases-states
decreases-states l = 2 * states_wires l.states.now + 1

abbrev pub invariant-states-loop-one : goal.invariant-states-loop-one
invariant-states-loop-one l = record {
  states : planted (forest_of l.made.items) (states_forest l.setting l.parent l.next (drop l.one-index l.states)) ≡ states_forest l.setting l.parent l.initial.next l.states;
  wires : l.next + states_wires (drop l.one-index l.states) ≡ l.initial.next + states_wires l.states;
}
