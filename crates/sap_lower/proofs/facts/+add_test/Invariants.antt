use Rattle.sap_lower.proofs.facts.+add_test.Given as goal

abbrev pub decreases-add_test : goal.decreases-add_test
decreases-add_test l = l.most
