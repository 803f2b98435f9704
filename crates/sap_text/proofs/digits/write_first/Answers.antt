use Rattle.sap_lemmas.proofs.Common.{◌≡◌, ◌+◌, ◌-◌, arith, decimal_digit}
use Rattle.std.proofs.lemmas.List.{drop-set}
use Rattle.sap_lemmas.proofs.Texts.{one_digit_long}
use Rattle.sap_text.proofs.PairsOfDigits.{two_digits, two_long}
use Rattle.sap_text.proofs.digits.write_first.Goals as goal

pub overflow_sub-bytes : goal.overflow_sub-bytes
overflow_sub-bytes c = omega (arith, one_digit_long c.args.left c.if-left-lt10.true)

pub bounds-bytes-end : goal.bounds-bytes-end
bounds-bytes-end c = omega (arith, one_digit_long c.args.left c.if-left-lt10.true)

pub overflow_sub-result : goal.overflow_sub-result
overflow_sub-result c = omega (arith, one_digit_long c.args.left c.if-left-lt10.true)

pub returns-then-left-lt10-clause-text : goal.returns-then-left-lt10-clause-text
returns-then-left-lt10-clause-text c =
    let long = one_digit_long c.args.left c.if-left-lt10.true in
    let e : c.args.end - 1 + 1 ≡ c.args.end = omega arith in
    rw (drop-set c.args.bytes.now (c.args.end - 1) _ (omega arith), e, decimal_digit c.args.left c.if-left-lt10.true)

pub overflow_sub-end : goal.overflow_sub-end
overflow_sub-end c = omega (arith, two_long c.args.left c.if-left-lt10.false c.requires.small)

pub write_pair-requires-clause-within : goal.write_pair-requires-clause-within
write_pair-requires-clause-within c = omega (arith, two_long c.args.left c.if-left-lt10.false c.requires.small)

pub overflow_sub-result-2 : goal.overflow_sub-result-2
overflow_sub-result-2 c = omega (arith, two_long c.args.left c.if-left-lt10.false c.requires.small)

pub returns-clause-text : goal.returns-clause-text
returns-clause-text c =
    let long = two_long c.args.left c.if-left-lt10.false c.requires.small in
    let e : c.args.end - 2 + 2 ≡ c.args.end = omega arith in
    rw (c.write_pair.ensures, e, two_digits c.args.left c.if-left-lt10.false c.requires.small)
