use Rattle.sap_fold.proofs.Ordering.{some_beside}
use Rattle.sap_fold.proofs.order.bit_beside.Goals as goal

pub returns : goal.returns
returns c =
    some_beside c.args.wires.now.list.items c.args.one.now c.args.wire.now c.in_ok-rest.rest (c.is_bit_wire.ensures c.if-not-is_bit_wire.false) (c.in_ok-rest.ensures {u = tt})
