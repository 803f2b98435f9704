use Rattle.std.proofs.Common.{◌∙◌}
use Rattle.sap_parse.proofs.Makes.{bounds_tree}
use Rattle.sap_parse.proofs.RowLaws.{bounds_row}
use Rattle.sap_walk.proofs.Walking.{bind_ok}
use Rattle.sap_parse.proofs.expr.bounds.Goals as goal

pub returns-clause-tree : goal.returns-clause-tree
returns-clause-tree c = bounds_tree c.in_ok-place.ensures.tree c.in_ok-high.ensures.tree

pub returns-clause-goes : goal.returns-clause-goes
returns-clause-goes c =
    bounds_row c.args.tokens.now ∙ bind_ok _ _ _ c.in_ok-place.ensures.goes ∙ c.in_ok-high.ensures.goes
