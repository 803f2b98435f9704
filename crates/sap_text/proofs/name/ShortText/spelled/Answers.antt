use Rattle.std.proofs.Common.{◌≡◌, rules}
use Rattle.sap_text.proofs.NamesLemmas.{inner_text}
use Rattle.sap_text.proofs.ShortTexts.{text_in_front}
use Rattle.sap_text.proofs.name.ShortText.spelled.Goals as goal

pub invariant_of-result : goal.invariant_of-result
invariant_of-result c =
    let front : c.copy_from_slice.new.self ≡ c.args.text.now = search rules in
    text_in_front c.args.text.now c.copy_from_slice.new.self _ front (inner_text c.args.text.now c.requires.inner)
