use Rattle.sap_system.proofs.LinkAnswered.{one_link_fault, none_where_kept}
use Rattle.sap_system.proofs.laws.one_link_fault.Goals as goal

pub returns-clause-one_fault : goal.returns-clause-one_fault
returns-clause-one_fault c = one_link_fault

pub returns-clause-none_where_kept : goal.returns-clause-none_where_kept
returns-clause-none_where_kept c = none_where_kept
