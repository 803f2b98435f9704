use Rattle.sap_lemmas.proofs.Common.{inl, inr, arith, subst, both_ways, cases_eq}
use Rattle.sap_system.specs.Rules.{BadPart}
use Rattle.sap_system.proofs.parts.first_bad.Goals as goal

pub returns-then-is_bad : goal.returns-then-is_bad
returns-then-is_bad c = record { here = c.is_bad.ensures.0 c.if-is_bad.true; none_before = c.loop-k.invariant }

pub loop-k-preserved : goal.loop-k-preserved
loop-k-preserved c = λ k low bad.
    elim (cases_eq k c.loop-k.k) [
      | inl e ↦ both_ways c.is_bad.result c.if-is_bad.false (c.is_bad.ensures.1 (subst (BadPart c.args.parts.now) e bad))
      | inr ne ↦ c.loop-k.invariant k (omega arith) bad
    ]

pub returns : goal.returns
returns c = λ k bad. c.loop-k.invariant k (let low = bad.0 in omega arith) bad
