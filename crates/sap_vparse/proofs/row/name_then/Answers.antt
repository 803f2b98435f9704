use Rattle.sap_vparse.proofs.row.name_then.Goals as goal

pub returns-clause-tree : goal.returns-clause-tree
returns-clause-tree c = (_, c.in_ok-name.ensures.tree, c.in_ok-row.ensures.tree)
