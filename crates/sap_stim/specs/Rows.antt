-- The row of a cycle: `cycle N:`, then ` NAME=VALUE@LEVEL` for each register in order, then LF.
use Rattle.std.specs.Prelude.{◌≡◌, ℕ, ◌+◌, ◌^◌, ◌<◌, ◌≤◌, All, List, [], ◌∷◌, ◌++◌, ◌==◌, codes, length, get_or, find, Option, Some, None, option_map}
use Rattle.std.specs.Fmt.{decimal}
use Rattle.std.specs.Str.{byte}
use Rattle.sap_lattice.specs.Closure.{name_at}
use Rattle.sap_lattice.specs.Codes.{code_of}
use Rattle.sap_lattice.specs.Levels.{Levels, order_of, numbers}

-- A register in a row: its name, its value, its tag, and the name of the level whose code the tag is, if there is one.
pub record Shown : Type 0 where
  pub name : List ℕ
  pub value : ℕ
  pub level : Option (List ℕ)
  pub tag : ℕ

-- The level whose code is this number.
abbrev pub level_coded : Levels → ℕ → Option ℕ
level_coded ls code = find (λ level. code_of (order_of ls) level == code) (numbers (length ls.names))

-- What a row shows of a register: its name, its number, its level and its code.
abbrev pub shown : Levels → (name : List ℕ) → (value tag : ℕ) → Shown
shown ls name value tag = record {
  name = name;
  value = value;
  level = option_map (name_at ls.names) (level_coded ls tag);
  tag = tag;
}

-- Registers by their names, values and tags.
abbrev pub shown_of : Levels → (names : List (List ℕ)) → (values tags : List ℕ) → List Shown
shown_of ls [] values tags = []
shown_of ls (name ∷ names) [] tags = []
shown_of ls (name ∷ names) (value ∷ values) [] = []
shown_of ls (name ∷ names) (value ∷ values) (tag ∷ tags) = shown ls name value tag ∷ shown_of ls names values tags

-- A level by its name; a tag that is no code as `#` and its number.
abbrev pub level_text : Option (List ℕ) → (tag : ℕ) → List ℕ
level_text (Some name) tag = name
level_text None tag = codes "#" ++ decimal tag

-- What stands before the number of the register of a name.
abbrev pub label_text : (name : List ℕ) → List ℕ
label_text name = codes " " ++ name ++ codes "="

-- What stands behind the number of a register with a tag.
abbrev pub at_level : Levels → (tag : ℕ) → List ℕ
at_level ls tag = codes "@" ++ level_text (option_map (name_at ls.names) (level_coded ls tag)) tag

-- What stands behind numbers, for each tag below so many.
abbrev pub AreLevelTexts : Levels → (texts : List (List ℕ)) → Type 0
AreLevelTexts ls texts = (tag : ℕ) (other : List ℕ) → tag < length texts → get_or texts tag other ≡ at_level ls tag

-- How a register is written in a row.
abbrev pub shown_text : Shown → List ℕ
shown_text s = codes " " ++ s.name ++ codes "=" ++ decimal s.value ++ codes "@" ++ level_text s.level s.tag

-- How the registers of a row are written, with the line's end.
abbrev pub all_shown : List Shown → List ℕ
all_shown [] = byte "\n" ∷ []
all_shown (s ∷ ss) = shown_text s ++ all_shown ss

-- How a row is written.
abbrev pub row_text : (cycle : ℕ) → List Shown → List ℕ
row_text cycle ss = codes "cycle " ++ decimal cycle ++ codes ":" ++ all_shown ss

-- How many bytes a row takes at most, whatever its cycle: the number of a cycle is counted as 20 digits.
abbrev pub row_room : List Shown → ℕ
row_room ss = length (codes "cycle ") + 20 + length (codes ":") + length (all_shown ss)

-- So many bytes are enough for any row of the registers of these names.
abbrev pub HoldsRows : Levels → (names : List (List ℕ)) → (room : ℕ) → Type 0
HoldsRows ls names room = (values tags : List ℕ) → All (λ n. n < 2 ^ 64) values
    → All (λ n. n < 2 ^ 64) tags → row_room (shown_of ls names values tags) ≤ room
