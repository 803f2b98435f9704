use Rattle.std.proofs.Common.{arith}
use Rattle.sap_fold.proofs.Slicing.{part_sliced}
use Rattle.sap_fold.proofs.slices.of_parts.Goals as goal

pub overflow_sub-hi : goal.overflow_sub-hi
overflow_sub-hi c = omega (arith, c.in-Some.ensures.low, c.if-lo-hi.false)

pub returns-in_ok-part-in-Some : goal.returns-in_ok-part-in-Some
returns-in_ok-part-in-Some c =
    let s = c.in-Some.found in
    part_sliced c.args.wires.now.list.items c.args.operands.now c.args.hi c.args.lo s.part s.behind c.index-operands-found.result
    c.in_ok-part-in-Some.part c.sliced.result c.in-Some.ensures c.index-operands-found.is (c.in_ok-part-in-Some.ensures {u = tt}) c.sliced.ensures
