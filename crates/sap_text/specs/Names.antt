-- What a text takes as a name, and the names that no version of the design language has.
use Rattle.std.specs.Prelude.{ℕ, Bool, false, ◌||◌, ◌&&◌, ◌==◌, List, [], ◌∷◌, codes}
use Rattle.std.specs.Char.{is_ascii_alphabetic, is_ascii_alphanumeric}
use Rattle.std.specs.List.{list_all, list_any}
use Rattle.std.specs.Str.{byte, bytes_eq}

-- A name begins with a letter or `_`.
abbrev pub is_initial : ℕ → Bool
is_initial c = is_ascii_alphabetic c || c == byte "_"

-- A name goes on with letters, digits and `_`.
abbrev pub is_inner : ℕ → Bool
is_inner c = is_ascii_alphanumeric c || c == byte "_"

-- A word is a letter or `_`, and then letters, digits and `_`.
abbrev pub is_word : List ℕ → Bool
is_word [] = false
is_word (c ∷ cs) = is_initial c && list_all is_inner cs

-- The name is on the list.
abbrev pub is_among : List ℕ → List (List ℕ) → Bool
is_among x ys = list_any (bytes_eq x) ys

-- No name of a design is one of these words, in any version of the language.
abbrev pub design_keywords : List (List ℕ)
design_keywords =
    codes "input"
    ∷ codes "reg"
    ∷ codes "mem"
    ∷ codes "state"
    ∷ codes "dynamic"
    ∷ codes "enforced"
    ∷ codes "under"
    ∷ codes "if"
    ∷ codes "else"
    ∷ codes "goto"
    ∷ codes "fall"
    ∷ codes "setTag"
    ∷ codes "otherwise"
    ∷ codes "tag"
    ∷ codes "level"
    ∷ codes "join"
    ∷ codes "zext"
    ∷ []
