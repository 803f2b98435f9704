use Rattle.sap_vparse.specs.Parts as p
use Rattle.sap_vparse.proofs.Makes.{ends_tree}
use Rattle.sap_vparse.proofs.item.last_cell.Goals as goal

pub returns-then-not-at_sign-clause-tree : goal.returns-then-not-at_sign-clause-tree
returns-then-not-at_sign-clause-tree c = p.no_cells c.in_ok-sign.ensures.tree

pub returns-clause-tree : goal.returns-clause-tree
returns-clause-tree c = ends_tree _ c.in_ok-row.ensures.tree c.in_ok-last.ensures.tree
