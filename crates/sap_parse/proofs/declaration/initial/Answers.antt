use Rattle.std.proofs.Common.{◌∙◌, refl}
use Rattle.sap_parse.specs.Grammar.{no_initial}
use Rattle.sap_parse.specs.Reading.{strictly}
use Rattle.sap_parse.proofs.DesignLaws.{initial_there}
use Rattle.sap_parse.proofs.DesignMakes.{initial_tree}
use Rattle.sap_walk.proofs.Walking.{bind_ok, bind_pure}
use Rattle.sap_parse.proofs.declaration.initial.Goals as goal

pub returns-then-not-at_sign-clause-tree : goal.returns-then-not-at_sign-clause-tree
returns-then-not-at_sign-clause-tree c = no_initial

pub returns-clause-tree : goal.returns-clause-tree
returns-clause-tree c = initial_tree c.in_ok-sign.ensures.tree c.in_ok-start.ensures.tree c.in_ok-start.ensures.place

pub returns-clause-goes : goal.returns-clause-goes
returns-clause-goes c =
    initial_there strictly c.args.tokens.now (c.if-not-at_sign.ensures.yes refl) ∙ bind_ok _ _ _ c.in_ok-sign.ensures.goes ∙ bind_pure _ ∙ c.in_ok-start.ensures.goes
