use Rattle.std.proofs.Common.{arith}
use Rattle.sap_wave.proofs.Spelled.{identifies, leading_zero, not_below}
use Rattle.sap_wave.proofs.numbers.identified_by.Goals as goal
use Rattle.sap_wave.proofs.numbers.identified_by.Goals.{else-id-gt1-via-then-id-gt1+else-id-eq33, else-id-gt1-via-else-id-gt1}

pub returns-then-id-eq33-clause-none : goal.returns-then-id-eq33-clause-none
returns-then-id-eq33-clause-none c = λ k l e. leading_zero c.args.id.now k c.if-id-gt1.true c.if-id-eq33.true e

pub returns-then-number-count-clause-is : goal.returns-then-number-count-clause-is
returns-then-number-count-clause-is c =
    let long = c.if-id-gt-SHORT.false in
    identifies c.args.id.now c.args.number c.requires.digits
    (λ more zero.
    elim c.else-id-gt1.branch [
      | else-id-gt1-via-then-id-gt1+else-id-eq33 w ↦ w.if-id-eq33.false zero
      | else-id-gt1-via-else-id-gt1 w ↦ let short = w.if-id-gt1.false in omega (arith, short, more)
    ])
    (c.requires.number (omega (arith, long)))

pub returns-else-number-count-clause-none : goal.returns-else-number-count-clause-none
returns-else-number-count-clause-none c =
    let long = c.if-id-gt-SHORT.false in
    λ k l e. not_below c.args.id.now c.args.number c.args.count k (c.requires.number (omega (arith, long))) c.if-number-count.false l e
