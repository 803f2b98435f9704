use Rattle.sap_wiring.proofs.Parts.{file_names_serve}
use Rattle.sap_wiring.proofs.laws.file_names_serve.Goals as goal

pub returns : goal.returns
returns c = file_names_serve
