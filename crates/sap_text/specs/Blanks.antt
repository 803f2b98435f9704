-- White space and comments, which stand between the tokens of a text.
use Rattle.std.specs.Prelude.{ℕ, List, Bool, not, ◌||◌, ◌&&◌, ◌==◌, slice_index}
use Rattle.std.specs.Str.{byte}

-- Space, tab, CR and LF are blank.
abbrev pub is_blank : ℕ → Bool
is_blank b = b == 32 || b == 9 || b == 13 || b == 10

-- A comment begins with two slashes.
abbrev pub is_comment : List ℕ → Bool
is_comment bytes = slice_index bytes 0 == byte "/" && slice_index bytes 1 == byte "/"

-- A comment goes on up to the next LF, which is no part of it.
abbrev pub is_in_line : ℕ → Bool
is_in_line b = not (b == 10)
