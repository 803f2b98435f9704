use Rattle.sap_parse.proofs.Makes.{sized_tree}
use Rattle.sap_parse.proofs.expr.sized.Goals as goal

pub returns-clause-tree : goal.returns-clause-tree
returns-clause-tree c = sized_tree c.in_ok-width.ensures.tree c.here-place.ensures c.spot.ensures c.sized-2.ensures
