use Rattle.sap_secure.proofs.Runs.{later_law, labelled_law}
use Rattle.sap_secure.proofs.runs_agree.Goals as goal

pub returns : goal.returns
returns c = record { later = later_law; first = labelled_law }
