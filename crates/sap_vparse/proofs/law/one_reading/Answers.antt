use Rattle.sap_vparse.proofs.OneReading.{one_text, one_fault, not_both}
use Rattle.sap_vparse.proofs.law.one_reading.Goals as goal

pub returns-clause-one_file : goal.returns-clause-one_file
returns-clause-one_file c = one_text

pub returns-clause-one_fault : goal.returns-clause-one_fault
returns-clause-one_fault c = one_fault

pub returns-clause-not_both : goal.returns-clause-not_both
returns-clause-not_both c = not_both
