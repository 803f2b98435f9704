use Rattle.sap_meaning.proofs.Sampled.{meets}
use Rattle.sap_meaning.proofs.examples.premises_are_met.Goals as goal

pub returns : goal.returns
returns c = meets
