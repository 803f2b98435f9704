use Rattle.std.proofs.Common.{◌∙◌, refl}
use Rattle.sap_parse.specs.Grammar as g
use Rattle.sap_parse.specs.Reading.{strictly}
use Rattle.sap_parse.proofs.DesignLaws.{header_there}
use Rattle.sap_walk.proofs.Walking.{bind_ok, bind_pure}
use Rattle.sap_parse.proofs.state.header.Goals as goal

pub returns-then-not-at_word-clause-tree : goal.returns-then-not-at_word-clause-tree
returns-then-not-at_word-clause-tree c = g.no_header

pub returns-clause-tree : goal.returns-clause-tree
returns-clause-tree c = g.header c.in_ok-word.ensures.tree c.in_ok-word-2.ensures.tree c.in_ok-sign.ensures.tree

pub returns-clause-goes : goal.returns-clause-goes
returns-clause-goes c =
    header_there strictly c.args.tokens.now (c.if-not-at_word.ensures.yes refl) ∙ bind_ok _ _ _ c.in_ok-word.ensures.goes
    ∙ bind_ok _ _ _ c.in_ok-word-2.ensures.goes ∙ bind_pure _ ∙ c.in_ok-sign.ensures.goes
