-- The bytes of a name, which stand in it or in a text of its own.
use Rattle.std.specs.Prelude.{ℕ, List, string_bytes}
use Rattle.sap_text.specs.declared.name.Text.{Text}
use Rattle.sap_text.specs.declared.name.Text.TheVariants.{Short, Long}

-- The bytes of a name, wherever they are kept.
abbrev pub text_bytes : Text → List ℕ
text_bytes (Short t) = t
text_bytes (Long t) = string_bytes t
