use Rattle.sap_vparse.proofs.Makes.{cell_tree}
use Rattle.sap_vparse.proofs.right.cell.Goals as goal

pub returns-clause-tree : goal.returns-clause-tree
returns-clause-tree c = λ ts m a b. cell_tree a b c.in_ok-index.ensures.tree c.into_inner.ensures
