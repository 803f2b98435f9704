use Rattle.sap_parse.proofs.CommandMakes.{fall_tree}
use Rattle.sap_parse.proofs.command.fall.Goals as goal

pub returns-clause-tree : goal.returns-clause-tree
returns-clause-tree c = fall_tree c.in_ok-place.ensures.tree c.in_ok-place.ensures.place
