use Rattle.std.proofs.Common.{◌∙◌}
use Rattle.sap_parse.proofs.DesignMakes.{register_tree}
use Rattle.sap_parse.proofs.DesignRowLaws.{register_rows}
use Rattle.sap_walk.proofs.Walking.{bind_ok, bind_pure}
use Rattle.sap_parse.proofs.declaration.register.Goals as goal

pub returns-clause-tree : goal.returns-clause-tree
returns-clause-tree c = register_tree c.in_ok-place.ensures.tree c.in_ok-kind.ensures.tree c.in_ok-start.ensures.tree c.in_ok-sign.ensures.tree c.into_inner.ensures

pub returns-clause-goes : goal.returns-clause-goes
returns-clause-goes c =
    register_rows c.args.tokens.now ∙ bind_ok _ _ _ c.in_ok-place.ensures.goes ∙ bind_ok _ _ _ c.in_ok-kind.ensures.goes
    ∙ bind_ok _ _ _ c.in_ok-start.ensures.goes ∙ bind_pure _ ∙ c.in_ok-sign.ensures.goes
