use Rattle.sap_vparse.proofs.operand.operand_then.Goals as goal

pub returns-clause-tree : goal.returns-clause-tree
returns-clause-tree c = (_, c.in_ok-operand.ensures.tree, c.in_ok-row.ensures.tree)
