use Rattle.sap_lemmas.proofs.Common.{◌≡◌, ap, sym, length, ◌+◌, ◌∙◌, digits_value, true_is_not_false, equal_of_test, test_of_equal}
use Rattle.sap_wave.specs.Steps.{open_of}
use Rattle.sap_wave.proofs.Stepping.{not_full, other_next}
use Rattle.sap_wave.proofs.steps.wrong_end.Goals as goal

pub returns-then-not-is_number-clause-some : goal.returns-then-not-is_number-clause-some
returns-then-not-is_number-clause-some c = λ xs.
    let b = c.args.reached.now in
    let next : length (open_of b).before + 1 ≡ c.count.result + 1 = ap (λ k. k + 1) (sym c.count.ensures.count) in
    other_next xs (open_of b) c.args.digits.now
    (λ e. true_is_not_false (sym (test_of_equal (digits_value 10 c.args.digits.now) (c.count.result + 1) (e ∙ next)) ∙ sym c.if-not-is_number.ensures))

pub returns-then-not-is_full-clause-some : goal.returns-then-not-is_full-clause-some
returns-then-not-is_full-clause-some c = λ xs.
    let b = c.args.reached.now in
    let next : length (open_of b).before + 1 ≡ c.count.result + 1 = ap (λ k. k + 1) (sym c.count.ensures.count) in
    not_full xs (open_of b) c.args.digits.now (equal_of_test (digits_value 10 c.args.digits.now) (c.count.result + 1) (sym c.if-not-is_number.ensures) ∙ sym next)
    (sym c.if-not-is_full.ensures)

pub returns-clause-none : goal.returns-clause-none
returns-clause-none c =
    let b = c.args.reached.now in
    let next : length (open_of b).before + 1 ≡ c.count.result + 1 = ap (λ k. k + 1) (sym c.count.ensures.count) in
    record {
      full = sym c.if-not-is_full.ensures;
      in_turn = equal_of_test (digits_value 10 c.args.digits.now) (c.count.result + 1) (sym c.if-not-is_number.ensures) ∙ sym next;
    }
