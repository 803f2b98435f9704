use Rattle.std.proofs.Common.{◌∙◌, refl}
use Rattle.sap_vparse.proofs.Behind.{at_token}
use Rattle.sap_vparse.proofs.read.fault_place.Goals as goal

pub returns-else-at_end : goal.returns-else-at_end
returns-else-at_end c = c.here.ensures ∙ at_token c.args.text.now c.args.tokens.now (c.if-at_end.ensures.no refl)
