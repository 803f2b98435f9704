use Rattle.sap_gen.proofs.Diamonds.{keeps_rules}
use Rattle.sap_gen.proofs.levels.rules_are_kept.Goals as goal

pub returns : goal.returns
returns c = keeps_rules
