use Rattle.sap_lower.proofs.reads.+opens.Given as goal

abbrev pub decreases-opens : goal.decreases-opens
decreases-opens l = l.most
