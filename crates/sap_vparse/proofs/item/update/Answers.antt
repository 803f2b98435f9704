use Rattle.std.proofs.Common.{◌∙◌}
use Rattle.sap_vparse.proofs.Makes.{update_tree}
use Rattle.sap_vparse.proofs.Turns.{update_turns}
use Rattle.sap_walk.proofs.Walking.{bind_ok}
use Rattle.sap_vparse.proofs.item.update.Goals as goal

pub returns-clause-tree : goal.returns-clause-tree
returns-clause-tree c = λ ts w. update_tree w c.in_ok-name.ensures.tree c.in_ok-next.ensures.tree c.into_inner.ensures

pub returns-clause-goes : goal.returns-clause-goes
returns-clause-goes c = update_turns c.args.tokens.now c.requires ∙ bind_ok _ _ _ c.in_ok-name.ensures.goes ∙ bind_ok _ _ _ c.in_ok-next.ensures.goes
