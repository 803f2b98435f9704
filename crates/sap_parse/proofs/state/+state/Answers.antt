use Rattle.std.proofs.Common.{◌∙◌, sym, ap, subst, refl, arith}
use Rattle.sap_parse.specs.Grammar as g
use Rattle.sap_parse.specs.Joining.{join_states}
use Rattle.sap_parse.specs.Reading.{strictly}
use Rattle.sap_tree.specs.Syntax as t
use Rattle.sap_tree.specs.Trees.{state_of, states_of}
use Rattle.sap_parse.proofs.DesignLaws.{states_there}
use Rattle.sap_parse.proofs.DesignMakes.{join_states_none, join_states_push, state_tree}
use Rattle.sap_parse.proofs.DesignRowLaws.{state_rows}
use Rattle.sap_walk.proofs.Walking.{bind_ok, bind_pure}
use Rattle.sap_parse.proofs.state.+state.Goals as goal

pub states-states-preserved : goal.states-states-preserved
states-states-preserved m c = record {
  goes = c.states.invariant.goes ∙ states_there strictly c.args.depth c.states.tokens (c.states-test.ensures.yes refl) ∙ bind_ok _ _ _ c.in_ok-next.ensures.goes ∙ bind_pure _;
  tree = λ ys q rest.
      subst (λ xs. g.States c.args.depth c.args.tokens.now xs q) (sym (ap (λ items. join_states (states_of items) ys) c.in_ok-push.ensures.items ∙ join_states_push _ _ ys))
      (c.states.invariant.tree (t.and_state (state_of c.in_ok-next.next) ys) q (g.and_state c.in_ok-next.ensures.tree rest));
  no_longer = omega (arith, c.in_ok-next.ensures.shorter);
}

pub states-returns-clause-tree : goal.states-returns-clause-tree
states-returns-clause-tree m c =
    subst (λ xs. g.States c.args.depth c.args.tokens.now xs c.states.tokens) (join_states_none _) (c.states.invariant.tree t.no_state c.states.tokens g.no_state)

pub state-returns-clause-tree : goal.state-returns-clause-tree
state-returns-clause-tree m c =
    state_tree c.in_ok-place.ensures.tree c.in_ok-body.ensures.tree c.in_ok-children.ensures.tree c.in_ok-sign.ensures.tree
    c.into_inner.ensures c.in_ok-body.ensures.after c.new.ensures

pub state-returns-clause-goes : goal.state-returns-clause-goes
state-returns-clause-goes m c =
    state_rows c.args.depth c.args.tokens.now ∙ bind_ok _ _ _ c.in_ok-place.ensures.goes ∙ bind_ok _ _ _ c.in_ok-body.ensures.goes
    ∙ bind_ok _ _ _ c.in_ok-children.ensures.goes ∙ bind_pure _ ∙ c.in_ok-sign.ensures.goes
