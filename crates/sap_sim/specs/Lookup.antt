-- Names with numbers, by a map.
use Rattle.std.specs.Prelude.{◌≡◌, ℕ}
use Rattle.sap_maps.specs.Maps.{Name}
use Rattle.sap_maps.specs.Scope.{Scope, find}
use Rattle.sap_net.specs.NameMaps.{NameMap, at_name}

-- The map finds what these names are declared with.
pub record Finds (m : NameMap ℕ) (sc : Scope) : Type 0 where
  pub same : (x : Name) → at_name m x ≡ find sc x
