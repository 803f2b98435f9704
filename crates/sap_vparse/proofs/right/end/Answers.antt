use Rattle.sap_vparse.specs.Parts as p
use Rattle.sap_vparse.proofs.right.end.Goals as goal

pub returns-clause-tree : goal.returns-clause-tree
returns-clause-tree c = p.nothing c.in_ok-sign.ensures.tree
