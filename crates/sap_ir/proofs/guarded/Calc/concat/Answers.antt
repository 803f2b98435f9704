use Rattle.sap_ir.proofs.Views.{concat_term}
use Rattle.sap_ir.proofs.guarded.Calc.concat.Goals as goal

pub returns : goal.returns
returns c = concat_term c.args.parts
