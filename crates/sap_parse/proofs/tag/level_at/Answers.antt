use Rattle.std.proofs.Common.{◌∙◌, ap}
use Rattle.sap_tree.specs.Syntax as t
use Rattle.sap_tree.specs.Trees.{expression_of}
use Rattle.sap_tree.specs.declared.syntax.Expr.{Expr}
use Rattle.sap_parse.proofs.TagMakes.{level_at_tree}
use Rattle.sap_parse.proofs.tag.level_at.Goals as goal

pub returns-clause-tree : goal.returns-clause-tree
returns-clause-tree c =
    level_at_tree c.in_ok-place.ensures.tree c.in_ok-place.ensures.place (c.level_at.ensures
    ∙ ap (λ (x : Expr). t.level_at c.in_ok-place.place (expression_of x)) c.into_inner.ensures)
