use Rattle.sap_link.proofs.Computed.{formed}
use Rattle.sap_link.proofs.examples.premises_are_met.Goals as goal

pub returns : goal.returns
returns c = formed
