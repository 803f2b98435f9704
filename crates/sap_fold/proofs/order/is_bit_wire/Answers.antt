use Rattle.sap_fold.proofs.Slicing.{bit_wire}
use Rattle.sap_fold.proofs.order.is_bit_wire.Goals as goal

pub returns-in-Some : goal.returns-in-Some
returns-in-Some c = λ t. bit_wire c.args.wires.now.list.items c.args.operand.now c.in-Named.name c.in-Some.wire.now c.in-Named.is c.in-Some.ensures t
