-- The names of a compiled module, by what they name; and of which x a name of any module is the number or the code of
-- the level.
use Rattle.std.specs.Prelude.{ℕ, Bool, false, ◌==◌, ◌&&◌, [], ◌∷◌, ◌++◌, codes, Option, Some, None, if◌then◌else◌}
use Rattle.std.specs.Fmt.{decimal}
use Rattle.std.specs.Str.{byte}
use Rattle.sap_maps.specs.Maps.{Name}

-- `v_x` is the name of the value of the input, register or memory x.
abbrev pub value_name : Name → Name
value_name x = codes "v_" ++ x

-- `t_x` is the name of the tag of the input, register, memory or state x.
abbrev pub tag_name : Name → Name
tag_name x = codes "t_" ++ x

-- `s_x` is the name of the register that holds the number of the current child of the state x.
abbrev pub seat_name : Name → Name
seat_name x = codes "s_" ++ x

-- `s_0` is the name of the register that holds the number of the root's current child.
abbrev pub root_seat : Name
root_seat = codes "s_0"

-- `c_k` is the name of the wire that shows whether check site k is refused.
abbrev pub refused_name : ℕ → Name
refused_name k = codes "c_" ++ decimal k

-- `l_k` is the name of the wire that shows the level of a refusal at check site k.
abbrev pub refused_level_name : ℕ → Name
refused_level_name k = codes "l_" ++ decimal k

-- The name of a compiled module.
abbrev pub top_name : Name
top_name = codes "top"

-- What follows the letter and `_` in a name that begins with them, if that is at least one byte.
abbrev pub behind : (letter : ℕ) → Name → Option Name
behind letter [] = None
behind letter (a ∷ []) = None
behind letter (a ∷ (b ∷ [])) = None
behind letter (a ∷ (b ∷ (c ∷ x))) = if a == letter && b == byte "_" then Some (c ∷ x) else None

-- `x` of `v_x`.
abbrev pub value_of : Name → Option Name
value_of n = behind (byte "v") n

-- `x` of `t_x`.
abbrev pub tag_of : Name → Option Name
tag_of n = behind (byte "t") n

-- There is a name, and it passes the test.
abbrev pub passes : (Name → Bool) → Option Name → Bool
passes test None = false
passes test (Some x) = test x

-- There is a number, and it is this one.
abbrev pub is_number : ℕ → Option ℕ → Bool
is_number n None = false
is_number n (Some k) = k == n
