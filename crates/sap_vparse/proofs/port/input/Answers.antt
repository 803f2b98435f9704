use Rattle.std.proofs.Common.{◌∙◌}
use Rattle.sap_vtext.specs.Grammar as g
use Rattle.sap_vparse.proofs.Laws.{port_input}
use Rattle.sap_walk.proofs.Walking.{bind_ok}
use Rattle.sap_vparse.proofs.port.input.Goals as goal

pub returns-clause-tree : goal.returns-clause-tree
returns-clause-tree c = g.input c.in_ok-word.ensures.tree c.in_ok-range.ensures.tree c.in_ok-name.ensures.tree

pub returns-clause-goes : goal.returns-clause-goes
returns-clause-goes c = port_input c.args.tokens.now c.requires ∙ bind_ok _ _ _ c.in_ok-word.ensures.goes
    ∙ bind_ok _ _ _ c.in_ok-range.ensures.goes ∙ bind_ok _ _ _ c.in_ok-name.ensures.goes
