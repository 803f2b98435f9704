use Rattle.sap_wave.proofs.digits.+push_identifier.Given as goal

abbrev pub decreases-push_identifier : goal.decreases-push_identifier
decreases-push_identifier l = l.number
