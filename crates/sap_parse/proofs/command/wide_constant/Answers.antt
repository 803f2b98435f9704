use Rattle.sap_parse.proofs.CommandMakes.{wide_constant_tree}
use Rattle.sap_parse.proofs.command.wide_constant.Goals as goal

pub returns-clause-tree : goal.returns-clause-tree
returns-clause-tree c = wide_constant_tree c.in_ok-width.ensures.tree c.here-place.ensures c.spot.ensures c.sized-2.ensures
