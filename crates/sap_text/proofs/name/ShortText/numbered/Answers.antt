use Rattle.sap_lemmas.proofs.Common.{List, ap, length, sym, ℕ, ◌+◌, ◌∙◌, ◌≡◌, decimal, length-append}
use Rattle.sap_text.proofs.NamesLemmas.{inner_text}
use Rattle.sap_text.proofs.ShortTexts.{all_inner, in_row, row_is_text}
use Rattle.sap_text.proofs.name.ShortText.numbered.Goals as goal

pub returns : goal.returns
returns c =
    in_row c.args.front.now c.as_bytes-back.result.now _ c.copy_from_slice.new.self c.copy_from_slice-2.new.self
    _ _ (c.copy_from_slice.ensures.after ∙ c.as_bytes.ensures.value) c.copy_from_slice-2.ensures.after (c.as_bytes-back.ensures ∙ c.new-digits.ensures)

pub invariant_of-result : goal.invariant_of-result
invariant_of-result c =
    let digits : c.as_bytes-back.result.now ≡ decimal c.args.number = c.as_bytes-back.ensures ∙ c.new-digits.ensures in
    row_is_text _ _ _ (returns c) (inner_text _ (all_inner c.args.front.now c.args.number c.ranges.number.fits c.requires.inner))
    (length-append c.args.front.now (decimal c.args.number) ∙ ap (λ (l : List ℕ). length c.args.front.now + length l) (sym digits))
