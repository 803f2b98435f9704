use Rattle.std.proofs.Common.{◌≤◌, ◌^◌, get_or, refl, ◌∙◌, arith}
use Rattle.sap_wave.specs.Digits.{number_spelled}
use Rattle.sap_wave.proofs.Spelled.{id_spells, id_whole, on_none, step}
use Rattle.sap_wave.proofs.numbers.spelled.Goals as goal

pub returns-in_err-checked_mul-clause-none : goal.returns-in_err-checked_mul-clause-none
returns-in_err-checked_mul-clause-none c =
    let ds = c.args.id.now in
    let i = c.loop-digit.digit-index in
    let s = step 33 94 ds i (get_or ds i 0) c.loop-digit.number (omega arith) c.requires c.loop-digit-test.true refl c.loop-digit.invariant in
    let large : 2 ^ 64 ≤ number_spelled c.args.id.now = omega (arith, s.most, id_spells ds, c.in_err-checked_mul.ensures) in
    on_none c.from_residual.result large

pub returns-in_err-number-clause-none : goal.returns-in_err-number-clause-none
returns-in_err-number-clause-none c =
    let ds = c.args.id.now in
    let i = c.loop-digit.digit-index in
    let s = step 33 94 ds i (get_or ds i 0) c.loop-digit.number (omega arith) c.requires c.loop-digit-test.true refl c.loop-digit.invariant in
    let large : 2 ^ 64 ≤ number_spelled c.args.id.now =
    omega (arith, s.most, id_spells ds, c.in_ok-checked_mul.ensures.1, c.from.ensures, c.in_err-number.ensures) in
    on_none c.from_residual-in_err-number.result large

pub loop-digit-preserved : goal.loop-digit-preserved
loop-digit-preserved c =
    let ds = c.args.id.now in
    let i = c.loop-digit.digit-index in
    let s = step 33 94 ds i (get_or ds i 0) c.loop-digit.number (omega arith) c.requires c.loop-digit-test.true refl c.loop-digit.invariant in
    omega (arith, s.next, c.in_ok-checked_mul.ensures.1, c.from.ensures, c.in_ok-number.ensures.1)

pub returns-clause-some : goal.returns-clause-some
returns-clause-some c = c.loop-digit.invariant ∙ id_whole c.args.id.now c.loop-digit.digit-index (omega (arith, c.loop-digit-test.false))
