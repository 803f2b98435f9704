use Rattle.sap_meaning.proofs.Fitting.{numbers_law}
use Rattle.sap_meaning.proofs.numbers_fit.Goals as goal

pub returns : goal.returns
returns c = numbers_law
