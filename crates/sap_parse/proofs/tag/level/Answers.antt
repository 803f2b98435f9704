use Rattle.sap_parse.proofs.TagMakes.{level_tree}
use Rattle.sap_parse.proofs.tag.level.Goals as goal

pub returns-clause-tree : goal.returns-clause-tree
returns-clause-tree c = level_tree c.in_ok-name.ensures.tree c.in_ok-name.ensures.place c.level.ensures
