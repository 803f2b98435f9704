use Rattle.sap_resolved.proofs.sized.Sampled.{lawful, whole, no_fault}
use Rattle.sap_resolved.proofs.sized.examples.premises_are_met.Goals as goal

pub returns : goal.returns
returns c = record { lawful = lawful; whole = whole; no_fault = no_fault }
