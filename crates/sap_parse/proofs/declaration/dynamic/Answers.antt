use Rattle.sap_parse.proofs.DesignMakes.{dynamic_tree}
use Rattle.sap_parse.proofs.declaration.dynamic.Goals as goal

pub returns-clause-tree : goal.returns-clause-tree
returns-clause-tree c = dynamic_tree c.in_ok-place.ensures.tree c.in_ok-place.ensures.place
