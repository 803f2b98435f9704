use Rattle.sap_wave.proofs.digits.+identifier_len.Given as goal

abbrev pub decreases-identifier_len : goal.decreases-identifier_len
decreases-identifier_len l = l.number
