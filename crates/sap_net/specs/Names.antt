-- What the module subset takes as a name, and lists of names.
use Rattle.std.specs.Prelude.{◌≡◌, ℕ, Bool, false, not, ◌&&◌, List, [], ◌∷◌, codes}
use Rattle.std.specs.Fmt.{decimal}
use Rattle.std.specs.Str.{byte}
pub use Rattle.sap_text.specs.Names.{is_initial, is_inner, is_word, is_among}
use Rattle.sap_maps.specs.Maps.{Name}

-- The keywords of the module subset.
abbrev pub keywords : List (List ℕ)
keywords =
    codes "module"
    ∷ codes "endmodule"
    ∷ codes "input"
    ∷ codes "output"
    ∷ codes "reg"
    ∷ codes "wire"
    ∷ codes "assign"
    ∷ codes "initial"
    ∷ codes "always"
    ∷ codes "posedge"
    ∷ codes "if"
    ∷ codes "for"
    ∷ codes "integer"
    ∷ codes "clk"
    ∷ codes "i"
    ∷ []

-- The text is a keyword of the module's language.
abbrev pub is_keyword : List ℕ → Bool
is_keyword name = is_among name keywords

-- The text is a word and no keyword.
unfoldable pub is_name : List ℕ → Bool
is_name name = is_word name && not (is_keyword name)

-- No name stands on the list twice.
abbrev pub AreDistinct : List Name → Type 0
AreDistinct [] = Unit {0}
AreDistinct (x ∷ xs) = (is_among x xs ≡ false) × AreDistinct xs

-- The name of a helping wire is an `n` and its number.
unfoldable pub helper : ℕ → Name
helper k = byte "n" ∷ decimal k

-- The name is `n` and a number.
abbrev pub IsHelpingName : Name → Type 0
IsHelpingName x = (k : ℕ) × (x ≡ helper k)
