use Rattle.std.proofs.Common.{◌∙◌}
use Rattle.sap_parse.specs.Rows.{range}
use Rattle.sap_parse.proofs.RowLaws.{range_steps}
use Rattle.sap_walk.proofs.Walking.{bind_ok}
use Rattle.sap_parse.proofs.expr.range.Goals as goal

pub returns-clause-tree : goal.returns-clause-tree
returns-clause-tree c = range c.in_ok-high.ensures.tree c.in_ok-sign.ensures.tree c.in_ok-low.ensures.tree

pub returns-clause-goes : goal.returns-clause-goes
returns-clause-goes c =
    range_steps c.args.tokens.now ∙ bind_ok _ _ _ c.in_ok-high.ensures.goes ∙ bind_ok _ _ _ c.in_ok-sign.ensures.goes ∙ c.in_ok-low.ensures.goes
