use Rattle.std.proofs.Common.{◌∙◌}
use Rattle.sap_parse.specs.Reading.{strictly}
use Rattle.sap_parse.proofs.CommandLaws.{goto_steps}
use Rattle.sap_parse.proofs.CommandMakes.{goto_tree}
use Rattle.sap_walk.proofs.Walking.{bind_ok, bind_pure}
use Rattle.sap_parse.proofs.command.goto.Goals as goal

pub returns-clause-tree : goal.returns-clause-tree
returns-clause-tree c = goto_tree c.in_ok-place.ensures.tree c.in_ok-target.ensures.tree c.in_ok-place.ensures.place c.in_ok-target.ensures.place

pub returns-clause-goes : goal.returns-clause-goes
returns-clause-goes c =
    goto_steps strictly c.args.depth c.args.tokens.now ∙ bind_ok _ _ _ c.in_ok-place.ensures.goes ∙ bind_pure _ ∙ c.in_ok-target.ensures.goes
