use Rattle.std.proofs.Common.{inl, inr, arith}
use Rattle.sap_stim.proofs.Marks.{field_ends, field_more}
use Rattle.sap_stim.proofs.ahead.field_len.Goals as goal

pub loop-size-preserved : goal.loop-size-preserved
loop-size-preserved c = record {
  within = omega (arith, c.loop-size-test.true);
  inside = field_more c.args.text.now c.loop-size.size c.loop-size-test.true c.loop-size.invariant.inside c.if-text-size-ne32.true c.if-text-size-ne10.true;
}

pub returns-else-text-size-ne10-clause-end : goal.returns-else-text-size-ne10-clause-end
returns-else-text-size-ne10-clause-end c =
    let ends = field_ends c.args.text.now c.loop-size.size c.loop-size.invariant.within (inr (inr c.if-text-size-ne10.false)) in
    omega (arith, ends, c.loop-size.invariant.inside)

pub returns-else-text-size-ne32-clause-end : goal.returns-else-text-size-ne32-clause-end
returns-else-text-size-ne32-clause-end c =
    let ends = field_ends c.args.text.now c.loop-size.size c.loop-size.invariant.within (inr (inl c.if-text-size-ne32.false)) in
    omega (arith, ends, c.loop-size.invariant.inside)

pub returns-after-loop-size-clause-end : goal.returns-after-loop-size-clause-end
returns-after-loop-size-clause-end c =
    let ends = field_ends c.args.text.now c.loop-size.size c.loop-size.invariant.within (inl (omega (arith, c.loop-size-test.false, c.loop-size.invariant.within))) in
    omega (arith, ends, c.loop-size.invariant.inside)
