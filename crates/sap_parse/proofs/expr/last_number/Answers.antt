use Rattle.std.proofs.Common.{◌∙◌}
use Rattle.sap_parse.specs.Rows.{last_number}
use Rattle.sap_parse.proofs.RowLaws.{row_steps}
use Rattle.sap_walk.proofs.Walking.{bind_ok, bind_pure}
use Rattle.sap_parse.proofs.expr.last_number.Goals as goal

pub returns-clause-tree : goal.returns-clause-tree
returns-clause-tree c = last_number c.in_ok-n.ensures.tree c.in_ok-sign.ensures.tree

pub returns-clause-goes : goal.returns-clause-goes
returns-clause-goes c =
    row_steps _ _ ∙ bind_ok _ _ _ c.in_ok-n.ensures.goes ∙ bind_pure _ ∙ c.in_ok-sign.ensures.goes
