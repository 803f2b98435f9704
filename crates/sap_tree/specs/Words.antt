-- What the design language takes as a word and as a name.
use Rattle.std.specs.Prelude.{ℕ, Bool, true, false, not, ◌&&◌, List, [], ◌∷◌, ◌++◌, length, map, nat_le, codes}
pub use Rattle.sap_text.specs.Names.{is_initial, is_inner, is_word}
use Rattle.sap_text.specs.Names.{design_keywords, is_among}
use Rattle.sap_tree.specs.Limits.{most_name_bytes}
use Rattle.sap_tree.specs.declared.version.Version.TheVariants as v
use Rattle.sap_tree.specs.declared.version.Version.{Version}
use Rattle.sap_tree.specs.declared.word.Word.TheVariants as w
use Rattle.sap_tree.specs.declared.word.Word.{Word}

-- The bytes by which a word is spelled.
abbrev pub word_text : Word → List ℕ
word_text w.Input = codes "input"
word_text w.Reg = codes "reg"
word_text w.Mem = codes "mem"
word_text w.State = codes "state"
word_text w.Dynamic = codes "dynamic"
word_text w.Enforced = codes "enforced"
word_text w.Under = codes "under"
word_text w.If = codes "if"
word_text w.Else = codes "else"
word_text w.Goto = codes "goto"
word_text w.Fall = codes "fall"
word_text w.SetTag = codes "setTag"
word_text w.Otherwise = codes "otherwise"
word_text w.Tag = codes "tag"
word_text w.Level = codes "level"
word_text w.Join = codes "join"
word_text w.Zext = codes "zext"
word_text w.Then = codes "then"
word_text w.Case = codes "case"
word_text w.Sapper = codes "sapper"
word_text w.Two = codes "2"

-- The words that are keywords in every version.
abbrev pub first_words : List Word
first_words = w.Input ∷ w.Reg ∷ w.Mem ∷ w.State ∷ w.Dynamic ∷ w.Enforced ∷ w.Under ∷ w.If ∷ w.Else
    ∷ w.Goto ∷ w.Fall ∷ w.SetTag
    ∷ w.Otherwise ∷ w.Tag ∷ w.Level ∷ w.Join ∷ w.Zext ∷ []

-- The words that are keywords in version 2 alone.
abbrev pub later_words : List Word
later_words = w.Then ∷ w.Case ∷ []

-- This is version 2.
abbrev pub is_second : Version → Bool
is_second v.One = false
is_second v.Two = true

-- The keywords of the design language.
abbrev pub keywords : Version → List (List ℕ)
keywords v.One = design_keywords
keywords v.Two = design_keywords ++ map word_text later_words

-- This is a keyword of a version, so no name.
abbrev pub is_keyword : Version → List ℕ → Bool
is_keyword version name = is_among name (keywords version)

-- A name is a word of at most so many bytes that is no keyword of its version.
unfoldable pub is_name : Version → List ℕ → Bool
is_name version name = is_word name && not (is_keyword version name) && nat_le (length name) most_name_bytes
