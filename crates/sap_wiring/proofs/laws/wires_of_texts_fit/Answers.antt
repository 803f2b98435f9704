use Rattle.sap_wiring.proofs.Fitting.{wires_of_texts_fit}
use Rattle.sap_wiring.proofs.laws.wires_of_texts_fit.Goals as goal

pub returns : goal.returns
returns c = wires_of_texts_fit
