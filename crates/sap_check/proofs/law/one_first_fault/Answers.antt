use Rattle.sap_shape.proofs.WellFormedLemmas.{no_first_fault}
use Rattle.sap_check.proofs.OneFault.{one_first_fault}
use Rattle.sap_check.proofs.law.one_first_fault.Goals as goal

pub returns-clause-one_fault : goal.returns-clause-one_fault
returns-clause-one_fault c = one_first_fault

pub returns-clause-not_both : goal.returns-clause-not_both
returns-clause-not_both c = no_first_fault
