-- What the loop keeps, and why the calls end.
use Rattle.std.proofs.Common.{◌≡◌, ◌≤◌, length, ◌+◌, ◌*◌}
use Rattle.sap_parse.specs.Grammar as g
use Rattle.sap_parse.specs.Joining.{join_states}
use Rattle.sap_parse.specs.Reading.{reads}
use Rattle.sap_parse.specs.Stages.{Stage}
use Rattle.sap_parse.specs.Table as s
use Rattle.sap_tree.specs.Prelude.{StateList, states_of}
use Rattle.sap_parse.proofs.state.+state.Given as goal

abbrev pub decreases-states : goal.decreases-states
decreases-states l = 2 * length l.tokens.now.left + 1

abbrev pub decreases-state : goal.decreases-state
decreases-state l = 2 * length l.tokens.now.left

abbrev pub invariant-states-states : goal.invariant-states-states
invariant-states-states l = record {
  goes : reads (s.states l.depth) l.fn.tokens ≡ reads (s.states l.depth) l.tokens;
  tree : (ys : StateList) (q : Stage) → g.States l.depth l.tokens ys q → g.States l.depth l.fn.tokens (join_states (states_of l.list.items) ys) q;
  no_longer : length l.tokens.left ≤ length l.fn.tokens.left;
}

abbrev pub decreases-states-states : goal.decreases-states-states
decreases-states-states l = length l.tokens.left
