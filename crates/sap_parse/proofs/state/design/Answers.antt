use Rattle.std.proofs.Common.{◌∙◌}
use Rattle.sap_parse.proofs.DesignMakes.{design_tree}
use Rattle.sap_parse.proofs.DesignRowLaws.{design_rows}
use Rattle.sap_walk.proofs.Walking.{bind_ok}
use Rattle.sap_parse.proofs.state.design.Goals as goal

pub returns-clause-tree : goal.returns-clause-tree
returns-clause-tree c = design_tree c.in_ok-version.ensures.tree c.in_ok-declarations.ensures.tree c.in_ok-states.ensures.tree

pub returns-clause-goes : goal.returns-clause-goes
returns-clause-goes c =
    design_rows c.args.tokens.now ∙ bind_ok _ _ _ c.in_ok-version.ensures.goes ∙ bind_ok _ _ _ c.in_ok-declarations.ensures.goes ∙ c.in_ok-states.ensures.goes
