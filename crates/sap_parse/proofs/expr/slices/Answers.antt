use Rattle.std.proofs.Common.{◌∙◌, sym, ap, subst, refl, rules, arith}
use Rattle.sap_parse.specs.Grammar as g
use Rattle.sap_parse.specs.Reading.{strictly}
use Rattle.sap_tree.specs.Prelude.{first_of, expression_of}
use Rattle.sap_tree.specs.declared.syntax.Expr.{Expr}
use Rattle.sap_parse.proofs.ExprLaws.{slices_missing}
use Rattle.sap_parse.proofs.Makes.{cut_tree}
use Rattle.sap_parse.proofs.Walks.{cutting}
use Rattle.sap_parse.proofs.expr.slices.Goals as goal

pub cuts-preserved : goal.cuts-preserved
cuts-preserved c = record {
  goes = grind (arith, cutting);
  tree = λ y q rest. c.cuts.invariant.tree y q
      (cut_tree c.in_ok-cut.ensures.tree c.in_ok-cut.ensures.place (c.first.ensures ∙ ap (λ (x : Expr). first_of (expression_of x)) (search rules)) c.slice-slice.ensures
      (subst (λ x. g.Cuts x c.bounds.new.tokens y q) (ap expression_of c.in_ok-all-2.ensures.ok) rest));
  no_longer = omega (arith, c.in_ok-cut.ensures.shorter);
}

pub returns-clause-goes : goal.returns-clause-goes
returns-clause-goes c = c.cuts.invariant.goes ∙ slices_missing strictly c.cuts.tokens (c.cuts-test.ensures.no refl)

pub returns-clause-tree : goal.returns-clause-tree
returns-clause-tree c =
    subst (λ (x : Expr). g.Cuts (expression_of c.args.operand) c.args.tokens.now (expression_of x) c.cuts.tokens) (sym c.into_inner.ensures)
    (c.cuts.invariant.tree _ _ g.no_cut)
