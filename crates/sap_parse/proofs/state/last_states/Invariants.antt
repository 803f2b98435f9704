use Rattle.std.proofs.Common.{◌≡◌, ◌≤◌, length}
use Rattle.sap_parse.specs.Grammar as g
use Rattle.sap_parse.specs.Joining.{join_states}
use Rattle.sap_parse.specs.Reading.{reads}
use Rattle.sap_parse.specs.Stages.{Stage}
use Rattle.sap_parse.specs.Table as s
use Rattle.sap_tree.specs.Prelude.{StateList, states_of}
use Rattle.sap_parse.proofs.state.last_states.Given as goal

abbrev pub invariant-states : goal.invariant-states
invariant-states l = record {
  goes : reads s.last_states l.fn.tokens ≡ reads s.last_states l.tokens;
  tree : (ys : StateList) (q : Stage) → g.States 1 l.tokens ys q
      → (xs : StateList) × (join_states (states_of l.list.items) ys ≡ join_states (states_of l.fn.list.items) xs) × g.States 1 l.fn.tokens xs q;
  no_longer : length l.tokens.left ≤ length l.fn.tokens.left;
}

abbrev pub decreases-states : goal.decreases-states
decreases-states l = length l.tokens.left
