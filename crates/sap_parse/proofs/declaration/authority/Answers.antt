use Rattle.std.proofs.Common.{◌∙◌, refl}
use Rattle.sap_parse.specs.Grammar.{no_authority}
use Rattle.sap_parse.specs.Reading.{strictly}
use Rattle.sap_parse.proofs.DesignLaws.{authority_there}
use Rattle.sap_parse.proofs.DesignMakes.{authority_tree}
use Rattle.sap_walk.proofs.Walking.{bind_ok, bind_pure}
use Rattle.sap_parse.proofs.declaration.authority.Goals as goal

pub returns-then-not-at_word-clause-tree : goal.returns-then-not-at_word-clause-tree
returns-then-not-at_word-clause-tree c = no_authority

pub returns-clause-tree : goal.returns-clause-tree
returns-clause-tree c = authority_tree c.in_ok-place.ensures.tree c.in_ok-level.ensures.tree c.in_ok-place.ensures.place c.in_ok-level.ensures.place

pub returns-clause-goes : goal.returns-clause-goes
returns-clause-goes c =
    authority_there strictly c.args.tokens.now (c.if-not-at_word.ensures.yes refl) ∙ bind_ok _ _ _ c.in_ok-place.ensures.goes ∙ bind_pure _ ∙ c.in_ok-level.ensures.goes
