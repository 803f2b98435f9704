use Rattle.sap_machine.proofs.Worked.{around_the_ends, branches, stored}
use Rattle.sap_machine.proofs.examples.worked_instructions.Goals as goal

pub returns : goal.returns
returns c = record { ends = around_the_ends; branches = branches; stores = stored }
