use Rattle.sap_ir.specs.Program.{source_of}
use Rattle.sap_ir.proofs.Tested.{guarded_from}
use Rattle.sap_ir.proofs.program.Guarded.rules.Goals as goal

pub returns : goal.returns
returns c = guarded_from (source_of c.args.self.now) c.args.self.now.rules
