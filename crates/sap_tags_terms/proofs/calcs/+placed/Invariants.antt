use Rattle.sap_tags_terms.proofs.calcs.+placed.Given as goal

abbrev pub decreases-placed : goal.decreases-placed
decreases-placed l = l.more
