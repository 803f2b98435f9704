use Rattle.std.proofs.Common.{◌∙◌}
use Rattle.sap_vparse.proofs.Makes.{file_tree}
use Rattle.sap_vparse.proofs.Turns.{file_turns}
use Rattle.sap_walk.proofs.Walking.{bind_ok}
use Rattle.sap_vparse.proofs.file.file.Goals as goal

pub returns-clause-tree : goal.returns-clause-tree
returns-clause-tree c = file_tree c.in_ok-word.ensures.tree c.in_ok-name.ensures.tree c.in_ok-ports.ensures.tree c.in_ok-sign.ensures.tree c.in_ok-items.ensures.tree

pub returns-clause-goes : goal.returns-clause-goes
returns-clause-goes c = file_turns c.args.tokens.now ∙ bind_ok _ _ _ c.in_ok-word.ensures.goes ∙ bind_ok _ _ _ c.in_ok-name.ensures.goes
    ∙ bind_ok _ _ _ c.in_ok-ports.ensures.goes ∙ bind_ok _ _ _ c.in_ok-sign.ensures.goes ∙ bind_ok _ _ _ c.in_ok-items.ensures.goes
