-- Right sides with the names of their wires, and a map from right sides to the numbers in these names.
use Rattle.std.specs.Prelude.{◌≡◌, ℕ, List, map, Option, bytes_eq}
use Rattle.std.specs.HashMap.{HashMap, get_by}
use Rattle.std.specs.Option.{option_map}
use Rattle.std.specs.declared.hash.FoldHasher.{FoldHasher}
use Rattle.std.specs.declared.hash.BuildHasherDefault.{BuildHasherDefault}
use Rattle.sap_maps.specs.Maps.{Name}
use Rattle.sap_maps.specs.Scope.{find}
use Rattle.sap_net.specs.declared.parts.Wire.{Wire}
use Rattle.sap_share.specs.Keys.{key}
use Rattle.sap_share.specs.Names.{helper}

-- The right sides, each with the name of its wire.
abbrev pub rights : List Wire → List (Name × Name)
rights ws = map (λ w. (key w.width w.right, w.name)) ws

-- A map from the keys of right sides to places.
abbrev pub RightMap : Type 0
RightMap = HashMap (List ℕ) ℕ (BuildHasherDefault FoldHasher)

-- The name with the number that the map has for a right side.
abbrev pub at_key : RightMap → List ℕ → Option Name
at_key m k = option_map helper (get_by (bytes_eq k) m)

-- Each right side has the number in the name of its wire, and nothing else has one.
abbrev pub NamesRights : RightMap → List Wire → Type 0
NamesRights m ws = (k : List ℕ) → at_key m k ≡ find (rights ws) k
