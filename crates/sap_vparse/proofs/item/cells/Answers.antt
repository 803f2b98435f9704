use Rattle.std.proofs.Common.{◌∙◌}
use Rattle.sap_vparse.proofs.Makes.{cells_tree}
use Rattle.sap_vparse.proofs.Turns.{cells_turns}
use Rattle.sap_walk.proofs.Walking.{bind_ok}
use Rattle.sap_vparse.proofs.item.cells.Goals as goal

pub returns-clause-tree : goal.returns-clause-tree
returns-clause-tree c = λ ts w. cells_tree w c.in_ok-head.ensures.tree c.in_ok-name.ensures.tree c.in_ok-value.ensures.tree

pub returns-clause-goes : goal.returns-clause-goes
returns-clause-goes c = cells_turns c.args.tokens.now c.requires ∙ bind_ok _ _ _ c.in_ok-head.ensures.goes
    ∙ bind_ok _ _ _ c.in_ok-name.ensures.goes ∙ bind_ok _ _ _ c.in_ok-value.ensures.goes
