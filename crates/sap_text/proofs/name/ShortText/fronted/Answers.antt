use Rattle.sap_lemmas.proofs.Common.{refl, ◌∙◌, length-append}
use Rattle.std.proofs.lemmas.Str.{IsUtf8-append}
use Rattle.sap_text.proofs.ShortTexts.{in_row, row_is_text}
use Rattle.sap_text.proofs.name.ShortText.fronted.Goals as goal

pub returns : goal.returns
returns c =
    in_row c.args.front.now c.args.name.now _ c.copy_from_slice.new.self c.copy_from_slice-2.new.self
    _ _ (c.copy_from_slice.ensures.after ∙ c.as_bytes.ensures.value) (c.copy_from_slice-2.ensures.after ∙ c.as_bytes-2.ensures.value) refl

pub invariant_of-result : goal.invariant_of-result
invariant_of-result c =
    row_is_text _ _ _ (returns c) (IsUtf8-append c.args.front.now c.args.name.now c.utf8.front c.utf8.name) (length-append c.args.front.now c.args.name.now)
