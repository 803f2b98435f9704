-- Sets of names, each seen as a list on which they stand.
use Rattle.std.specs.Prelude.{◌≡◌, Bool, List}
use Rattle.sap_maps.specs.Maps.{Name}
use Rattle.sap_net.specs.Names.{is_among}

-- The set has the name.
abbrev pub holds : List Name → Name → Bool
holds names n = is_among n names

-- The same names stand on both.
abbrev pub AreSame : List Name → List Name → Type 0
AreSame xs ys = (n : Name) → holds xs n ≡ holds ys n
