use Rattle.sap_secure.proofs.Hiding.{enters_high, hidden_at_low}
use Rattle.sap_secure.proofs.examples.worked_confinement.Goals as goal

pub returns : goal.returns
returns c = record { enters = enters_high; hidden = hidden_at_low c.confinement.ensures }
