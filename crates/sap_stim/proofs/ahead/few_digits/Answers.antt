use Rattle.sap_lemmas.proofs.Common.{◌≡◌, ◌+◌, ◌*◌, ◌<◌, ℕ, true, length, sym, ap, ◌∙◌, slice_index_or, arith, is_ascii_digit}
use Rattle.sap_stim.proofs.SmallValues.{digit_more, digits_more, few_small}
use Rattle.sap_stim.proofs.ahead.few_digits.Goals as goal

pub overflow_mul-number : goal.overflow_mul-number
overflow_mul-number c =
    let i = c.loop-count.invariant in
    let small = few_small c.args.text.now c.loop-count.count c.loop-count.number (omega (arith, c.loop-count-test.true, i.all))
    (omega (arith, c.loop-count-test.true, i.few)) i.digits i.number in
    omega (arith, small)

pub overflow_add-number : goal.overflow_add-number
overflow_add-number c =
    let i = c.loop-count.invariant in
    let small = few_small c.args.text.now c.loop-count.count c.loop-count.number (omega (arith, c.loop-count-test.true, i.all))
    (omega (arith, c.loop-count-test.true, i.few)) i.digits i.number in
    omega (arith, small, c.from.ensures, c.type_inv.text c.loop-count.count)

pub loop-count-preserved : goal.loop-count-preserved
loop-count-preserved c =
    let i = c.loop-count.invariant in
    let text = c.args.text.now in
    let k = c.loop-count.count in
    let inside : k < length text = omega (arith, c.loop-count-test.true, i.all) in
    let is : is_ascii_digit (slice_index_or text k 0) ≡ true = sym c.is_ascii_digit.ensures.value ∙ c.if-is_ascii_digit.true in
    record {
      within = omega (arith, c.loop-count-test.true);
      all = i.all;
      few = i.few;
      digits = digits_more text k inside is i.digits;
      number = ap (λ (d : ℕ). c.loop-count.number * 10 + d) c.from.ensures ∙ digit_more text k c.loop-count.number inside is i.number;
    }
