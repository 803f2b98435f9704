use Rattle.std.proofs.Common.{◌∙◌}
use Rattle.sap_vparse.proofs.Makes.{loop_tree}
use Rattle.sap_vparse.proofs.Turns.{loop_turns}
use Rattle.sap_walk.proofs.Walking.{bind_ok}
use Rattle.sap_vparse.proofs.item.for_head.Goals as goal

pub returns-clause-tree : goal.returns-clause-tree
returns-clause-tree c = loop_tree c.in_ok-row.ensures.tree c.in_ok-place.ensures.tree c.in_ok-place.ensures.place c.in_ok-bound.ensures.tree

pub returns-clause-goes : goal.returns-clause-goes
returns-clause-goes c = loop_turns c.args.tokens.now ∙ bind_ok _ _ _ c.in_ok-row.ensures.goes ∙ bind_ok _ _ _ c.in_ok-place.ensures.goes ∙ bind_ok _ _ _ c.in_ok-bound.ensures.goes
