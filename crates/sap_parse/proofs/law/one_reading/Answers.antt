use Rattle.sap_parse.proofs.OneReading.{one_design, one_fault, not_both}
use Rattle.sap_parse.proofs.law.one_reading.Goals as goal

pub returns-clause-one_design : goal.returns-clause-one_design
returns-clause-one_design c = one_design

pub returns-clause-one_fault : goal.returns-clause-one_fault
returns-clause-one_fault c = one_fault

pub returns-clause-not_both : goal.returns-clause-not_both
returns-clause-not_both c = not_both
