-- Which names the interface of a compiled module has.
use Rattle.std.specs.Prelude.{◌≡◌, ◌<◌, ◌≤◌, ℕ, Bool, true, ◌||◌, List}
use Rattle.sap_meaning.specs.Program.{World, root, children, is_input, is_register, is_memory, is_state}
use Rattle.sap_net.specs.PortNames.{value_name, tag_name, refused_name, refused_level_name, seat_name, root_seat}
use Rattle.sap_interface.specs.StandsFor.{Named, name, world}

-- The entity is an input, a register or a memory.
abbrev pub holds_numbers : World → ℕ → Bool
holds_numbers w x = is_input w x || (is_register w x || is_memory w x)

-- A name of the interface of a design: of a value, a tag, a current child, a refusal or a refusal's level.
pub data IsInterfaceName (d : Named) (sites : ℕ) : List ℕ → Type 0 where
  -- the value and the tag of an input, a register or a memory
  value_of : (x : ℕ) → holds_numbers (world d) x ≡ true → IsInterfaceName d sites (value_name (name d x))
  tag_of : (x : ℕ) → holds_numbers (world d) x ≡ true → IsInterfaceName d sites (tag_name (name d x))
  -- the tag of a state
  state_tag_of : (x : ℕ) → is_state (world d) x ≡ true → x < root (world d)
      → IsInterfaceName d sites (tag_name (name d x))
  -- the current child of a state with children, and of the root
  child_of : (p : ℕ) → p < root (world d) → 0 < children (world d) p → IsInterfaceName d sites (seat_name (name d p))
  child_of_root : IsInterfaceName d sites root_seat
  -- whether a check site is refused, and at which level
  refusal_of : (k : ℕ) → 1 ≤ k → k ≤ sites → IsInterfaceName d sites (refused_name k)
  level_of : (k : ℕ) → 1 ≤ k → k ≤ sites → IsInterfaceName d sites (refused_level_name k)
