use Rattle.sap_fold.proofs.Slicing.{named_wide}
use Rattle.sap_fold.proofs.slices.width_of.Goals as goal

pub returns-in-Some : goal.returns-in-Some
returns-in-Some c = named_wide c.args.wires.now.list.items c.args.operand.now c.in-Named.name c.in-Some.wire.now c.in-Named.is c.in-Some.ensures
