use Rattle.sap_lemmas.proofs.Common.{◌≡◌, ◌≢◌, ℕ, Some, Bool, true, false, rules, refl, ap, ◌∙◌, arith, eqb, ◌&&◌, nat_tests}
use Rattle.sap_vparse.specs.Reading.{front_number}
use Rattle.sap_vparse.proofs.Single.{number_is, digit_read, digit_refused, digit_other, some_number}
use Rattle.sap_vparse.proofs.cursor.Cursor.digit.Goals as goal
use Rattle.sap_vparse.proofs.cursor.Cursor.digit.Goals.{else-value-digit-via-then-value-digit+else-digits-eq1, else-value-digit-via-else-value-digit}

other_first : (a b n : ℕ) → a ≢ n → (eqb a n && eqb b 1) ≡ false
other_first a b n ne = by_test (eqb a n) refl where
  by_test : (t : Bool) → eqb a n ≡ t → (t && eqb b 1) ≡ false
  by_test true e = absurd (ne (grind (arith, nat_tests)))
  by_test false e = refl

other_second : (a b n : ℕ) → b ≢ 1 → (eqb a n && eqb b 1) ≡ false
other_second a b n ne = by_test (eqb a n) (eqb b 1) refl where
  by_test : (s t : Bool) → eqb b 1 ≡ t → (s && t) ≡ false
  by_test s true e = absurd (ne (grind (arith, nat_tests)))
  by_test true false e = refl
  by_test false false e = refl

pub pass-requires : goal.pass-requires
pass-requires c = some_number c.args.self.now (c.in-Some.value, c.in-Some.digits) (search rules)

pub returns-then-digits-eq1-clause-goes : goal.returns-then-digits-eq1-clause-goes
returns-then-digits-eq1-clause-goes c =
    let front : front_number c.args.self.now ≡ Some (c.in-Some.value, c.in-Some.digits) = search rules in
    let same : (c.in-Some.value, c.in-Some.digits) ≡ (c.args.digit, 1) = ap (λ (n : ℕ). (n, c.in-Some.digits)) c.if-value-digit.true
    ∙ ap (λ (n : ℕ). (c.args.digit, n)) c.if-digits-eq1.true in
    digit_read c.args.self.now c.pass.new.self c.pass.result c.args.digit (front ∙ ap (λ (v : ℕ × ℕ). Some v) same) c.pass.ensures

pub returns-then-digits-eq1-clause-tree : goal.returns-then-digits-eq1-clause-tree
returns-then-digits-eq1-clause-tree c =
    let front : front_number c.args.self.now ≡ Some (c.in-Some.value, c.in-Some.digits) = search rules in
    let same : (c.in-Some.value, c.in-Some.digits) ≡ (c.args.digit, 1) = ap (λ (n : ℕ). (n, c.in-Some.digits)) c.if-value-digit.true
    ∙ ap (λ (n : ℕ). (c.args.digit, n)) c.if-digits-eq1.true in
    record { place = c.pass.result; is = number_is c.args.self.now c.pass.new.self c.pass.result (c.args.digit, 1) (front ∙ ap (λ (v : ℕ × ℕ). Some v) same) c.pass.ensures }

pub returns-else-value-digit-clause-goes : goal.returns-else-value-digit-clause-goes
returns-else-value-digit-clause-goes c = λ known.
    let front : front_number c.args.self.now ≡ Some (c.in-Some.value, c.in-Some.digits) = search rules in
    elim c.else-value-digit.branch [
      | else-value-digit-via-then-value-digit+else-digits-eq1 w ↦
          digit_other c.args.self.now c.args.digit (c.in-Some.value, c.in-Some.digits) front (other_second _ _ _ w.if-digits-eq1.false)
      | else-value-digit-via-else-value-digit w ↦ digit_other c.args.self.now c.args.digit (c.in-Some.value, c.in-Some.digits) front (other_first _ _ _ w.if-value-digit.false)
    ]

pub returns-in-None-clause-goes : goal.returns-in-None-clause-goes
returns-in-None-clause-goes c = λ known. digit_refused c.args.self.now c.args.digit (search rules)
