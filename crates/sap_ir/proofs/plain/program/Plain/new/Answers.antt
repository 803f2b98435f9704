use Rattle.sap_ir.specs.Plain.Parts.{parts_nested}
use Rattle.sap_ir.proofs.plain.Passes.{plain_to}
use Rattle.sap_ir.proofs.plain.program.Plain.new.Goals as goal

pub invariant_of-result : goal.invariant_of-result
invariant_of-result c = record { rules = plain_to (parts_nested c.args.parts) c.requires }
