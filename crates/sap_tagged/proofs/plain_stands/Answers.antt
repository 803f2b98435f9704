use Rattle.sap_tagged.proofs.Designs.{plain_stands}
use Rattle.sap_tagged.proofs.Fitted.{plains_keep, plains_write}
use Rattle.sap_tagged.proofs.plain_stands.Goals as goal

pub returns : goal.returns
returns c = record { stands = plain_stands c.lists_serve.ensures c.refusals_in_order.ensures; rules = plains_keep; once = plains_write }
