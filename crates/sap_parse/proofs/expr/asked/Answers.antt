use Rattle.std.proofs.Common.{◌∙◌}
use Rattle.sap_parse.specs.Rows.{asked}
use Rattle.sap_parse.proofs.RowLaws.{row_more}
use Rattle.sap_walk.proofs.Walking.{bind_ok}
use Rattle.sap_parse.proofs.expr.asked.Goals as goal

pub returns-clause-tree : goal.returns-clause-tree
returns-clause-tree c = asked c.in_ok-place.ensures.tree c.in_ok-inner.ensures.tree

pub returns-clause-goes : goal.returns-clause-goes
returns-clause-goes c =
    row_more _ _ c.args.tokens.now ∙ bind_ok _ _ _ c.in_ok-place.ensures.goes ∙ c.in_ok-inner.ensures.goes
