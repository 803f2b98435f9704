use Rattle.std.proofs.Common.{◌∙◌}
use Rattle.sap_vparse.proofs.Makes.{wire_tree}
use Rattle.sap_vparse.proofs.Turns.{wire_turns}
use Rattle.sap_walk.proofs.Walking.{bind_ok}
use Rattle.sap_vparse.proofs.item.wire.Goals as goal

pub returns-clause-tree : goal.returns-clause-tree
returns-clause-tree c = wire_tree c.in_ok-word.ensures.tree c.in_ok-range.ensures.tree c.in_ok-name.ensures.tree

pub returns-clause-goes : goal.returns-clause-goes
returns-clause-goes c = wire_turns c.args.tokens.now c.requires ∙ bind_ok _ _ _ c.in_ok-word.ensures.goes
    ∙ bind_ok _ _ _ c.in_ok-range.ensures.goes ∙ bind_ok _ _ _ c.in_ok-name.ensures.goes
