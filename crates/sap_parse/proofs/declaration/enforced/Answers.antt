use Rattle.std.proofs.Common.{◌∙◌}
use Rattle.sap_parse.specs.Reading.{strictly}
use Rattle.sap_parse.proofs.DesignLaws.{enforced_steps}
use Rattle.sap_parse.proofs.DesignMakes.{enforced_tree}
use Rattle.sap_walk.proofs.Walking.{bind_ok, bind_pure}
use Rattle.sap_parse.proofs.declaration.enforced.Goals as goal

pub returns-clause-tree : goal.returns-clause-tree
returns-clause-tree c = enforced_tree c.in_ok-word.ensures.tree c.in_ok-level.ensures.tree c.in_ok-under.ensures.tree c.in_ok-level.ensures.place

pub returns-clause-goes : goal.returns-clause-goes
returns-clause-goes c =
    enforced_steps strictly c.args.tokens.now ∙ bind_ok _ _ _ c.in_ok-word.ensures.goes ∙ bind_ok _ _ _ c.in_ok-level.ensures.goes ∙ bind_pure _ ∙ c.in_ok-under.ensures.goes
