use Rattle.sap_ir.proofs.plain.Worked.{is_program}
use Rattle.sap_ir.proofs.plain.examples.rules_are_met.Goals as goal

pub returns : goal.returns
returns c = is_program
