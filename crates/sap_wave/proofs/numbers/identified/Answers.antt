use Rattle.sap_wave.proofs.Spelled.{identifies, leading_zero, not_below, on_none, too_large}
use Rattle.std.proofs.Common.{arith}
use Rattle.sap_wave.proofs.numbers.identified.Goals as goal
use Rattle.sap_wave.proofs.numbers.identified.Goals.{else-id-gt1-via-then-id-gt1+else-id-eq33, else-id-gt1-via-else-id-gt1}

pub returns-then-id-eq33-clause-none : goal.returns-then-id-eq33-clause-none
returns-then-id-eq33-clause-none c = λ k l e. leading_zero c.args.id.now k c.if-id-gt1.true c.if-id-eq33.true e

pub returns-in_err-number-clause-none : goal.returns-in_err-number-clause-none
returns-in_err-number-clause-none c =
    on_none c.from_residual.result (λ k l e. too_large c.args.id.now c.args.count k (omega arith) c.in_err-number.ensures.none l e)

pub returns-then-number-count-clause-is : goal.returns-then-number-count-clause-is
returns-then-number-count-clause-is c =
    identifies c.args.id.now c.in_ok-number.number c.requires
    (λ long zero.
    elim c.else-id-gt1.branch [
      | else-id-gt1-via-then-id-gt1+else-id-eq33 w ↦ w.if-id-eq33.false zero
      | else-id-gt1-via-else-id-gt1 w ↦ let short = w.if-id-gt1.false in omega (arith, short, long)
    ])
    c.in_ok-number.ensures.some

pub returns-else-number-count-clause-none : goal.returns-else-number-count-clause-none
returns-else-number-count-clause-none c = λ k l e. not_below c.args.id.now c.in_ok-number.number c.args.count k c.in_ok-number.ensures.some c.if-number-count.false l e
