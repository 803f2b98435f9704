use Rattle.sap_lemmas.proofs.Common.{◌≡◌, ◌+◌, ◌*◌, ℕ, true, sym, ap, ◌∙◌, slice_index_or, is_ascii_digit}
use Rattle.sap_stim.proofs.SmallValues.{digit_more}
use Rattle.sap_stim.proofs.ahead.leading_number.Goals as goal

pub returns-clause-number : goal.returns-clause-number
returns-clause-number c =
    let text = c.args.text.now in
    let number = c.few_digits-number.result.0 in
    let k = c.few_digits-number.result.1 in
    let is : is_ascii_digit (slice_index_or text k 0) ≡ true = sym c.is_ascii_digit.ensures.value ∙ c.if-not-is_ascii_digit.false in
    ap (λ (d : ℕ). number * 10 + d) c.from.ensures ∙ digit_more text k number c.if-count-text.false is c.few_digits-number.ensures.number
