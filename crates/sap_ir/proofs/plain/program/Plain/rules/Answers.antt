use Rattle.sap_ir.specs.Plain.Program.{nested_of}
use Rattle.sap_ir.proofs.plain.Tested.{plain_from}
use Rattle.sap_ir.proofs.plain.program.Plain.rules.Goals as goal

pub returns : goal.returns
returns c = plain_from (nested_of c.args.self.now) c.args.self.now.rules
