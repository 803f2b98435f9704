use Rattle.sap_vparse.proofs.Makes.{integer_tree}
use Rattle.sap_vparse.proofs.item.integer.Goals as goal

pub returns-clause-tree : goal.returns-clause-tree
returns-clause-tree c = integer_tree c.in_ok-place.ensures.tree c.in_ok-place.ensures.place
