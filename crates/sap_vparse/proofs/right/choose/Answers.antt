use Rattle.std.proofs.Common.{◌∙◌}
use Rattle.sap_vparse.proofs.Makes.{choose_tree}
use Rattle.sap_vparse.proofs.Turns.{choose_turns}
use Rattle.sap_walk.proofs.Walking.{bind_ok}
use Rattle.sap_vparse.proofs.right.choose.Goals as goal

pub returns-clause-tree : goal.returns-clause-tree
returns-clause-tree c = choose_tree c.in_ok-sign.ensures.tree c.in_ok-yes.ensures.tree c.in_ok-no.ensures.tree c.into_inner.ensures c.into_inner-2.ensures

pub returns-clause-goes : goal.returns-clause-goes
returns-clause-goes c = choose_turns c.args.tokens.now c.requires ∙ bind_ok _ _ _ c.in_ok-sign.ensures.goes
    ∙ bind_ok _ _ _ c.in_ok-yes.ensures.goes ∙ bind_ok _ _ _ c.in_ok-no.ensures.goes
