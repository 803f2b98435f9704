use Rattle.sap_lower.proofs.reads.+denies_test.Given as goal

abbrev pub decreases-denies_test : goal.decreases-denies_test
decreases-denies_test l = l.most
