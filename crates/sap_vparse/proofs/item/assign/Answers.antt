use Rattle.std.proofs.Common.{◌∙◌}
use Rattle.sap_vparse.proofs.Makes.{assign_tree}
use Rattle.sap_vparse.proofs.Turns.{assign_turns}
use Rattle.sap_walk.proofs.Walking.{bind_ok}
use Rattle.sap_vparse.proofs.item.assign.Goals as goal

pub returns-clause-tree : goal.returns-clause-tree
returns-clause-tree c = assign_tree c.in_ok-word.ensures.tree c.in_ok-name.ensures.tree c.in_ok-right.ensures.tree

pub returns-clause-goes : goal.returns-clause-goes
returns-clause-goes c = assign_turns c.args.tokens.now c.requires ∙ bind_ok _ _ _ c.in_ok-word.ensures.goes
    ∙ bind_ok _ _ _ c.in_ok-name.ensures.goes ∙ bind_ok _ _ _ c.in_ok-right.ensures.goes
