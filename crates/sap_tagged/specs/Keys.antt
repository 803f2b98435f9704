-- The names of a plain program, each by what it names.
use Rattle.std.specs.Prelude.{ℕ, zero, suc, ◌+◌, ◌/◌, ◌%◌, Bool, false, nat_eq, nat_lt, [], ◌∷◌, ◌++◌, codes, if◌then◌else◌}
use Rattle.sap_maps.specs.Maps.{Name}
use Rattle.sap_meaning.specs.Program.{root}
use Rattle.sap_net.specs.PortNames.{value_name, tag_name, seat_name}
use Rattle.sap_interface.specs.StandsFor.{Named, name, world}

-- A variable of the plain program: a value, a tag, a current child, a refusal and its level, a helping wire, a saved
-- tag, a context.
pub data Key : Type 0 where
  -- the number of an input or a register, the contents of a memory
  value_key : ℕ → Key
  -- the tag of an input, a register, a state or a dynamic memory, the tags of an enforced memory's cells
  tag_key : ℕ → Key
  -- the current child of a state, or of the root
  seat_key : ℕ → Key
  -- whether a check site is refused, and at which level
  refused_key : ℕ → Key
  level_key : ℕ → Key
  -- a wire of the program's own
  wire_key : ℕ → Key
  -- the tag of a dynamic memory as the cycle began
  first_key : ℕ → Key
  -- the context of the children of a state
  inner_key : ℕ → Key

-- The two keys are the same.
abbrev pub same : Key → Key → Bool
same (value_key x) (value_key y) = nat_eq x y
same (tag_key x) (tag_key y) = nat_eq x y
same (seat_key p) (seat_key q) = nat_eq p q
same (refused_key j) (refused_key k) = nat_eq j k
same (level_key j) (level_key k) = nat_eq j k
same (wire_key j) (wire_key k) = nat_eq j k
same (first_key m) (first_key n) = nat_eq m n
same (inner_key s) (inner_key t) = nat_eq s t
same _ _ = false

-- A number in decimal, by its last k digits at most.
abbrev pub last_digits : (k n : ℕ) → Name
last_digits zero n = []
last_digits (suc k) n = if nat_lt n 10 then (48 + n) ∷ [] else last_digits k (n / 10) ++ (48 + n % 10) ∷ []

-- The same with all its digits. What a program writes of a number, `decimal`, has 64 digits at most.
unfoldable pub numeral : ℕ → Name
numeral n = last_digits (suc n) n

-- The name of an entity, of a number past the last its digits.
abbrev pub entity_word : Named → ℕ → Name
entity_word d x = if nat_lt x (root (world d)) then name d x else numeral x

-- And of the root a 0.
abbrev pub seat_word : Named → ℕ → Name
seat_word d p = if nat_eq p (root (world d)) then codes "0" else entity_word d p

-- Those of an interface are as it has them; the others are a letter and digits.
abbrev pub key_name : Named → Key → Name
key_name d (value_key x) = value_name (entity_word d x)
key_name d (tag_key x) = tag_name (entity_word d x)
key_name d (seat_key p) = seat_name (seat_word d p)
key_name d (refused_key k) = codes "c_" ++ numeral k
key_name d (level_key k) = codes "l_" ++ numeral k
key_name d (wire_key k) = codes "h" ++ numeral k
key_name d (first_key m) = codes "b" ++ numeral m
key_name d (inner_key s) = codes "u" ++ numeral s
