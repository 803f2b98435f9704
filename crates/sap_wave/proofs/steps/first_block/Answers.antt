use Rattle.sap_lemmas.proofs.Common.{ℕ, Option, None, replicate, sym, ap, ◌∙◌, digits_value, equal_of_test}
use Rattle.sap_wave.proofs.Reached.{first_so}
use Rattle.sap_wave.proofs.steps.first_block.Goals as goal

-- `is_number` tells whether the number is 0.
pub returns : goal.returns
returns c = (
  equal_of_test (digits_value 10 c.args.digits.now) 0 (sym c.if-not-is_number.ensures),
  first_so c.args.variables.items _ c.in_ok-unset.field-0.items c.new-before.ensures.blocks
      (c.in_ok-unset.ensures ∙ ap (λ (k : ℕ). replicate {A = Option ℕ} k None) (c.len-count.ensures ∙ c.args.variables.ok.0)),
  tt,
)
