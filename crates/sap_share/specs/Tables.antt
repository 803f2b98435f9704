-- Values under names.
use Rattle.std.specs.Prelude.{List, [], ◌∷◌, if◌then◌else◌, bytes_eq}
use Rattle.sap_maps.specs.Maps.{Name}

-- Another value for the first entry of a name.
abbrev pub replaced : {X : Type 0} → List (Name × X) → Name → X → List (Name × X)
replaced [] n x = []
replaced (e ∷ es) n x = if bytes_eq e.0 n then (e.0, x) ∷ es else e ∷ replaced es n x
