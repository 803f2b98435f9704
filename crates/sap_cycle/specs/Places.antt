-- Names by their places in a list.
use Rattle.std.specs.Prelude.{◌≡◌, ℕ, List, Some, Contains, IsSome, slice_get}
use Rattle.sap_maps.specs.Maps.{Name}
use Rattle.sap_net.specs.NameMaps.{NameMap, at_name}

-- The map finds the names of the list, and no others, each at a place where it stands.
pub record Finds (m : NameMap ℕ) (names : List Name) : Type 0 where
  pub found : (x : Name) (k : ℕ) → at_name m x ≡ Some k → slice_get names k ≡ Some x
  pub all : (x : Name) → Contains names x → IsSome (at_name m x)
