use Rattle.std.proofs.Common.{◌∙◌, sym, ap, refl, arith}
use Rattle.sap_parse.specs.Grammar as g
use Rattle.sap_parse.specs.Joining.{join}
use Rattle.sap_parse.specs.Reading.{strictly}
use Rattle.sap_tree.specs.Syntax as t
use Rattle.sap_tree.specs.Trees.{expression_of, expressions_of}
use Rattle.sap_parse.proofs.CommandLaws.{constants_missing, constants_there}
use Rattle.sap_parse.proofs.Makes.{join_none, join_push}
use Rattle.sap_walk.proofs.Walking.{bind_ok, bind_pure}
use Rattle.sap_parse.proofs.command.more_constants.Goals as goal

pub constants-preserved : goal.constants-preserved
constants-preserved c = record {
  goes = c.constants.invariant.goes ∙ constants_there strictly c.constants.tokens (c.constants-test.ensures.yes refl)
      ∙ bind_ok _ _ _ c.in_ok-sign.ensures.goes ∙ bind_ok _ _ _ c.in_ok-next.ensures.goes ∙ bind_pure _;
  tree = λ ys q rest.
      let h = c.constants.invariant.tree (t.and_part (expression_of c.in_ok-next.next) ys) q (g.constant c.in_ok-sign.ensures.tree c.in_ok-next.ensures.tree rest) in
      (h.0, ap (λ items. join (expressions_of items) ys) c.in_ok-push.ensures.items ∙ join_push _ _ ys ∙ h.1, h.2);
  no_longer = omega (arith, c.in_ok-next.ensures.shorter, c.in_ok-sign.ensures.shorter);
}

pub returns-clause-goes : goal.returns-clause-goes
returns-clause-goes c = c.constants.invariant.goes ∙ constants_missing strictly c.constants.tokens (c.constants-test.ensures.no refl)

pub returns-clause-tree : goal.returns-clause-tree
returns-clause-tree c =
    let h = c.constants.invariant.tree t.no_part c.constants.tokens g.no_constant in
    (h.0, sym (join_none _) ∙ h.1, h.2)
