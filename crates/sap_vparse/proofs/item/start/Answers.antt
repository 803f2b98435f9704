use Rattle.std.proofs.Common.{◌∙◌}
use Rattle.sap_vparse.proofs.Makes.{start_tree}
use Rattle.sap_vparse.proofs.Turns.{start_turns}
use Rattle.sap_walk.proofs.Walking.{bind_ok}
use Rattle.sap_vparse.proofs.item.start.Goals as goal

pub returns-clause-tree : goal.returns-clause-tree
returns-clause-tree c = λ ts w. start_tree w c.in_ok-name.ensures.tree c.in_ok-value.ensures.tree

pub returns-clause-goes : goal.returns-clause-goes
returns-clause-goes c = start_turns c.args.tokens.now c.requires ∙ bind_ok _ _ _ c.in_ok-name.ensures.goes ∙ bind_ok _ _ _ c.in_ok-value.ensures.goes
