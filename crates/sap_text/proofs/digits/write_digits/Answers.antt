use Rattle.sap_lemmas.proofs.Common.{[], drop, ◌≡◌, ◌<◌, ◌+◌, ◌-◌, ◌^◌, refl, append_assoc, arith, lit<, decimal, length-decimal-le, append-nil, drop_all}
use Rattle.sap_text.proofs.PairsOfDigits.{last_two, two_longer}
use Rattle.sap_text.proofs.digits.write_digits.Goals as goal

pub loop-left-init : goal.loop-left-init
loop-left-init c =
    let none : drop 20 c.args.bytes.now ≡ [] = drop_all 20 c.args.bytes.now (omega arith) in
    record {
      text = rw (none, append-nil (decimal c.args.number)) refl;
      room = length-decimal-le 20 c.args.number (omega arith) (let most : 2 ^ 64 < 10 ^ 20 = lit< tt in omega (arith, most)) (omega arith);
      within = omega arith;
      small = omega arith;
    }

pub overflow_sub-start : goal.overflow_sub-start
overflow_sub-start c = omega (arith, two_longer c.loop-left.left c.loop-left-test.true c.loop-left.invariant.small, c.loop-left.invariant.room)

pub write_pair-requires-clause-within : goal.write_pair-requires-clause-within
write_pair-requires-clause-within c = omega (arith, two_longer c.loop-left.left c.loop-left-test.true c.loop-left.invariant.small, c.loop-left.invariant.room)

pub loop-left-preserved : goal.loop-left-preserved
loop-left-preserved c =
    let l = c.loop-left in
    let long = two_longer l.left c.loop-left-test.true l.invariant.small in
    let e : l.start - 2 + 2 ≡ l.start = omega (arith, long, l.invariant.room) in
    record {
      text = rw (c.write_pair.ensures, e) (rw (last_two l.left c.loop-left-test.true l.invariant.small, append_assoc) at l.invariant.text);
      room = omega (arith, long, l.invariant.room);
      within = omega arith;
      small = omega arith;
    }
