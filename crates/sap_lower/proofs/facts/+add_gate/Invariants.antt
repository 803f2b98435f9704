use Rattle.sap_lower.proofs.facts.+add_gate.Given as goal

abbrev pub decreases-add_gate : goal.decreases-add_gate
decreases-add_gate l = l.most
