use Rattle.sap_lower.proofs.reads.+seen.Given as goal

abbrev pub decreases-seen : goal.decreases-seen
decreases-seen l = l.most
