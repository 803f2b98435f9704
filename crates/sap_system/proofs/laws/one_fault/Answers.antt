use Rattle.sap_system.proofs.Answered.{one_fault, not_both}
use Rattle.sap_system.proofs.laws.one_fault.Goals as goal

pub returns-clause-one_fault : goal.returns-clause-one_fault
returns-clause-one_fault c = one_fault

pub returns-clause-not_both : goal.returns-clause-not_both
returns-clause-not_both c = not_both
