use Rattle.sap_taint.proofs.Worked.{names, clashes}
use Rattle.sap_taint.proofs.examples.worked_clashes.Goals as goal

pub returns : goal.returns
returns c = record { names = names; clashes = clashes }
