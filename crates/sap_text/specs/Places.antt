-- Lines and columns, both from 1. A line ends at LF alone, and a column counts bytes.
use Rattle.std.specs.Prelude.{ℕ, ◌+◌, List, [], ◌∷◌, ◌++◌, ◌==◌, codes, if◌then◌else◌, take}
use Rattle.std.specs.Fmt.{decimal}
use Rattle.sap_text.specs.declared.place.Place.{Place}

-- The end of a line.
abbrev pub line_end : List ℕ
line_end = 10 ∷ []

-- A line and its end.
abbrev pub line : List ℕ → List ℕ
line text = text ++ line_end

-- LINE:COL.
abbrev pub place_text : Place → List ℕ
place_text place = decimal place.line ++ codes ":" ++ decimal place.column

-- The place after a byte at this place: LF begins a line, and each other byte takes one column.
abbrev pub next_place : Place → ℕ → Place
next_place place b = if b == 10 then record { line = place.line + 1; column = 1 }
    else record { line = place.line; column = place.column + 1 }

-- The place after bytes that begin at this place.
abbrev pub place_after : Place → List ℕ → Place
place_after place [] = place
place_after place (b ∷ bytes) = place_after (next_place place b) bytes

-- A text begins in line 1, at column 1.
abbrev pub first_place : Place
first_place = record { line = 1; column = 1 }

-- The place just after the first n bytes of a text.
unfoldable pub place_at : List ℕ → ℕ → Place
place_at text n = place_after first_place (take n text)
