use Rattle.std.proofs.Common.{◌∙◌}
use Rattle.sap_vparse.proofs.Makes.{slice_tree}
use Rattle.sap_vparse.proofs.Turns.{slice_turns}
use Rattle.sap_walk.proofs.Walking.{bind_ok}
use Rattle.sap_vparse.proofs.right.slice.Goals as goal

pub returns-clause-tree : goal.returns-clause-tree
returns-clause-tree c = λ ts m a b. slice_tree _ _ a b c.in_ok-high.ensures.tree c.in_ok-low.ensures.tree

pub returns-clause-goes : goal.returns-clause-goes
returns-clause-goes c = slice_turns c.args.tokens.now c.requires ∙ bind_ok _ _ _ c.in_ok-high.ensures.goes ∙ bind_ok _ _ _ c.in_ok-low.ensures.goes
