use Rattle.std.proofs.Common.{◌∙◌, sym, ap, refl, arith}
use Rattle.sap_parse.specs.Grammar as g
use Rattle.sap_parse.specs.Joining.{join_states}
use Rattle.sap_parse.specs.Reading.{strictly}
use Rattle.sap_tree.specs.Syntax as t
use Rattle.sap_tree.specs.Trees.{state_of, states_of}
use Rattle.sap_parse.proofs.DesignLaws.{last_states_end, last_states_other, last_states_there}
use Rattle.sap_parse.proofs.DesignMakes.{join_states_none, join_states_push}
use Rattle.sap_walk.proofs.Walking.{bind_ok, bind_pure}
use Rattle.sap_parse.proofs.state.last_states.Goals as goal

pub states-preserved : goal.states-preserved
states-preserved c = record {
  goes = c.states.invariant.goes ∙ last_states_there strictly c.states.tokens (c.states-test.ensures.yes refl) ∙ bind_ok _ _ _ c.in_ok-next.ensures.goes ∙ bind_pure _;
  tree = λ ys q rest.
      let h = c.states.invariant.tree (t.and_state (state_of c.in_ok-next.next) ys) q (g.and_state c.in_ok-next.ensures.tree rest) in
      (h.0, ap (λ items. join_states (states_of items) ys) c.in_ok-push.ensures.items ∙ join_states_push _ _ ys ∙ h.1, h.2);
  no_longer = omega (arith, c.in_ok-next.ensures.shorter);
}

pub returns-then-at_end-clause-goes : goal.returns-then-at_end-clause-goes
returns-then-at_end-clause-goes c = c.states.invariant.goes ∙ last_states_end strictly c.states.tokens (c.if-at_end.ensures.yes refl)

pub returns-then-at_end-clause-tree : goal.returns-then-at_end-clause-tree
returns-then-at_end-clause-tree c =
    let h = c.states.invariant.tree t.no_state c.states.tokens g.no_state in
    (h.0, sym (join_states_none _) ∙ h.1, h.2)

pub returns-else-at_end-clause-goes : goal.returns-else-at_end-clause-goes
returns-else-at_end-clause-goes c = c.states.invariant.goes ∙ last_states_other strictly c.states.tokens (c.states-test.ensures.no refl) (c.if-at_end.ensures.no refl)
