use Rattle.std.proofs.Common.{◌≡◌, ◌+◌, ◌-◌, ◌∷◌, List, drop, sym, subst, arith}
use Rattle.sap_net.specs.declared.parts.Operand.{Operand}
use Rattle.sap_fold.specs.Slices.{HaveWidth}
use Rattle.sap_fold.proofs.Slicing.{drop_less, part_found, width_more}
use Rattle.sap_fold.proofs.slices.find_part.Goals as goal

pub returns-then-hi-behind : goal.returns-then-hi-behind
returns-then-hi-behind c =
    part_found c.args.wires.now.list.items c.args.operands.now c.args.hi c.args.lo c.loop-part.part c.loop-part.behind c.in-Some.width
    c.index-operands-part.result c.loop-part-test.true c.loop-part.invariant.within c.index-operands-part.is
    c.loop-part.invariant.behind c.in-Some.ensures (omega (arith, c.if-behind-lo.false)) (omega (arith, c.if-hi-behind.true))

pub loop-part-preserved : goal.loop-part-preserved
loop-part-preserved c =
    let ws = c.args.wires.now.list.items in
    let xs = c.args.operands.now in
    let k = c.loop-part.part - 1 in
    let y = c.index-operands-part.result in
    let e : drop k xs ≡ y ∷ drop c.loop-part.part xs = drop_less xs c.loop-part.part y c.loop-part-test.true c.loop-part.invariant.within c.index-operands-part.is in
    record {
      within = omega (arith, c.loop-part.invariant.within);
      small = omega (arith, c.requires, c.if-hi-behind.false);
      behind = subst (λ (os : List Operand). HaveWidth ws os (c.loop-part.behind + c.in-Some.width)) (sym e)
          (width_more ws y (drop c.loop-part.part xs) c.loop-part.behind c.in-Some.width c.loop-part.invariant.behind c.in-Some.ensures);
    }
