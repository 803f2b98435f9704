use Rattle.std.proofs.Common.{◌∙◌}
use Rattle.sap_parse.proofs.DesignMakes.{input_tree}
use Rattle.sap_parse.proofs.DesignRowLaws.{input_rows}
use Rattle.sap_walk.proofs.Walking.{bind_ok, bind_pure}
use Rattle.sap_parse.proofs.declaration.input.Goals as goal

pub returns-clause-tree : goal.returns-clause-tree
returns-clause-tree c = input_tree c.in_ok-place.ensures.tree c.in_ok-sign.ensures.tree

pub returns-clause-goes : goal.returns-clause-goes
returns-clause-goes c =
    input_rows c.args.tokens.now ∙ bind_ok _ _ _ c.in_ok-place.ensures.goes ∙ bind_pure _ ∙ c.in_ok-sign.ensures.goes
