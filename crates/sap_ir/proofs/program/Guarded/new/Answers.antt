use Rattle.sap_ir.specs.Parts.{parts_source}
use Rattle.sap_ir.proofs.Passes.{guarded_to}
use Rattle.sap_ir.proofs.program.Guarded.new.Goals as goal

pub invariant_of-result : goal.invariant_of-result
invariant_of-result c = record { rules = guarded_to (parts_source c.args.parts) c.requires }
