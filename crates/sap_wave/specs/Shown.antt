-- Registers by their names.
use Rattle.std.specs.Prelude.{◌≡◌, ℕ, ◌<◌, List, length, map, get_or}
use Rattle.sap_maps.specs.Maps.{Name}
use Rattle.sap_net.specs.declared.parts.Register.{Register}

-- The names of registers.
abbrev pub names_in : List Register → List Name
names_in rs = map (λ r. r.name) rs

-- The register stands on the list.
abbrev pub StandsIn : List Register → Register → Type 0
StandsIn rs r = (k : ℕ) × (k < length rs) × (r ≡ get_or rs k r)
