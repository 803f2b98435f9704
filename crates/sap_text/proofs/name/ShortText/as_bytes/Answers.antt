use Rattle.std.proofs.lemmas.Str.{IsUtf8-from_is_utf8}
use Rattle.sap_text.proofs.name.ShortText.as_bytes.Goals as goal

pub returns-clause-text : goal.returns-clause-text
returns-clause-text c = IsUtf8-from_is_utf8 _ c.self.invariant.1
