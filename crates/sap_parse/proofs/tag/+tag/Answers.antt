use Rattle.std.proofs.Common.{◌∙◌, ◌++◌, ◌∷◌, [], List, sym, ap, refl, arith}
use Rattle.sap_parse.specs.Grammar as g
use Rattle.sap_parse.specs.Joining.{join_tags}
use Rattle.sap_parse.specs.Reading.{strictly}
use Rattle.sap_tree.specs.Syntax as t
use Rattle.sap_tree.specs.Trees.{tag_of, tags_of}
use Rattle.sap_tree.specs.declared.syntax.TagExpr.{TagExpr}
use Rattle.sap_parse.proofs.TagLaws.{join_steps, texprs_missing, texprs_there}
use Rattle.sap_parse.proofs.TagMakes.{join_tags_none, join_tags_push, join_tree}
use Rattle.sap_walk.proofs.Walking.{bind_ok, bind_pure}
use Rattle.sap_parse.proofs.tag.+tag.Goals as goal

pub more_tags-others-preserved : goal.more_tags-others-preserved
more_tags-others-preserved m c = record {
  goes = c.others.invariant.goes ∙ texprs_there strictly c.others.tokens (c.others-test.ensures.yes refl)
      ∙ bind_ok _ _ _ c.in_ok-sign.ensures.goes ∙ bind_ok _ _ _ c.in_ok-part.ensures.goes ∙ bind_pure _;
  tree = λ ys q rest.
      let h = c.others.invariant.tree (t.and_tag (tag_of c.in_ok-part.part) ys) q (g.tag c.in_ok-sign.ensures.tree c.in_ok-part.ensures.tree rest) in
      (h.0, ap (λ items. join_tags (tags_of items) ys) c.in_ok-push.ensures.items ∙ join_tags_push _ _ ys ∙ h.1, h.2);
  no_longer = omega (arith, c.in_ok-part.ensures.shorter, c.in_ok-sign.ensures.shorter);
}

pub more_tags-returns-clause-goes : goal.more_tags-returns-clause-goes
more_tags-returns-clause-goes m c = c.others.invariant.goes ∙ texprs_missing strictly c.others.tokens (c.others-test.ensures.no refl)

pub more_tags-returns-clause-tree : goal.more_tags-returns-clause-tree
more_tags-returns-clause-tree m c =
    let h = c.others.invariant.tree t.no_tag c.others.tokens g.no_tag in
    (h.0, sym (join_tags_none _) ∙ h.1, h.2)

pub join-returns-clause-tree : goal.join-returns-clause-tree
join-returns-clause-tree m c =
    let others = c.in_ok-more_tags.ensures.tree in
    let items = c.in_ok-push-2.ensures.items
    ∙ ap (λ (v : List TagExpr). v ++ c.in_ok-second.second ∷ []) (c.in_ok-push.ensures.items
    ∙ ap (λ (v : List TagExpr). v ++ c.in_ok-first.first ∷ []) c.new-parts.ensures.items) in
    join_tree c.in_ok-place.ensures.tree c.in_ok-sign.ensures.tree c.in_ok-first.ensures.tree c.in_ok-sign-2.ensures.tree
    c.in_ok-second.ensures.tree others.2 c.in_ok-sign-3.ensures.tree
    c.in_ok-place.ensures.place (others.1 ∙ ap (λ (v : List TagExpr). join_tags (tags_of v) others.0) items) c.join.ensures

pub join-returns-clause-goes : goal.join-returns-clause-goes
join-returns-clause-goes m c =
    join_steps strictly c.args.tokens.now ∙ bind_ok _ _ _ c.in_ok-place.ensures.goes ∙ bind_ok _ _ _ c.in_ok-sign.ensures.goes
    ∙ bind_ok _ _ _ c.in_ok-first.ensures.goes ∙ bind_ok _ _ _ c.in_ok-sign-2.ensures.goes ∙ bind_ok _ _ _ c.in_ok-second.ensures.goes
    ∙ bind_ok _ _ _ c.in_ok-more_tags.ensures.goes ∙ bind_pure _ ∙ c.in_ok-sign-3.ensures.goes
