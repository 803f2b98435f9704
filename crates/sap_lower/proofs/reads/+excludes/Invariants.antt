use Rattle.sap_lower.proofs.reads.+excludes.Given as goal

abbrev pub decreases-excludes : goal.decreases-excludes
decreases-excludes l = l.most
