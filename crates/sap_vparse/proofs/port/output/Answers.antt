use Rattle.std.proofs.Common.{◌∙◌}
use Rattle.sap_vparse.proofs.Laws.{port_output}
use Rattle.sap_vparse.proofs.Makes.{output_tree}
use Rattle.sap_walk.proofs.Walking.{bind_ok}
use Rattle.sap_vparse.proofs.port.output.Goals as goal

pub returns-clause-tree : goal.returns-clause-tree
returns-clause-tree c = output_tree c.in_ok-word.ensures.tree c.in_ok-direction.ensures.tree c.in_ok-range.ensures.tree c.in_ok-name.ensures.tree

pub returns-clause-goes : goal.returns-clause-goes
returns-clause-goes c = port_output c.args.tokens.now c.requires ∙ bind_ok _ _ _ c.in_ok-word.ensures.goes
    ∙ bind_ok _ _ _ c.in_ok-direction.ensures.goes ∙ bind_ok _ _ _ c.in_ok-range.ensures.goes ∙ bind_ok _ _ _ c.in_ok-name.ensures.goes
