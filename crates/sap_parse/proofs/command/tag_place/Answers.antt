use Rattle.std.proofs.Common.{◌∙◌}
use Rattle.sap_parse.proofs.CommandMakes.{tag_place_tree}
use Rattle.sap_parse.proofs.RowLaws.{row_steps}
use Rattle.sap_walk.proofs.Walking.{bind_ok, bind_pure}
use Rattle.sap_parse.proofs.command.tag_place.Goals as goal

pub returns-clause-tree : goal.returns-clause-tree
returns-clause-tree c = tag_place_tree c.in_ok-place.ensures.tree c.in_ok-sign.ensures.tree c.in_ok-name.ensures.tree c.in_ok-place.ensures.place c.in_ok-name.ensures.place

pub returns-clause-goes : goal.returns-clause-goes
returns-clause-goes c =
    row_steps _ _ ∙ bind_ok _ _ _ c.in_ok-place.ensures.goes ∙ bind_ok _ _ _ c.in_ok-sign.ensures.goes ∙ bind_pure _ ∙ c.in_ok-name.ensures.goes
