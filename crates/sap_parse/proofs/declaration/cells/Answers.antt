use Rattle.std.proofs.Common.{◌∙◌}
use Rattle.sap_parse.proofs.DesignMakes.{cells_tree}
use Rattle.sap_parse.proofs.RowLaws.{row_steps}
use Rattle.sap_walk.proofs.Walking.{bind_ok, bind_pure}
use Rattle.sap_parse.proofs.declaration.cells.Goals as goal

pub returns-clause-tree : goal.returns-clause-tree
returns-clause-tree c = cells_tree c.in_ok-sign.ensures.tree c.in_ok-depth.ensures.tree c.in_ok-sign-2.ensures.tree c.in_ok-depth.ensures.place

pub returns-clause-goes : goal.returns-clause-goes
returns-clause-goes c =
    row_steps _ _ ∙ bind_ok _ _ _ c.in_ok-sign.ensures.goes ∙ bind_ok _ _ _ c.in_ok-depth.ensures.goes ∙ bind_pure _ ∙ c.in_ok-sign-2.ensures.goes
