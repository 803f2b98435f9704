use Rattle.sap_tags_effects.proofs.arms.+decide_block.Given as goal

abbrev pub decreases-decide_block : goal.decreases-decide_block
decreases-decide_block l = l.bits
