-- Levels for worked examples.
use Rattle.std.specs.Prelude.{true, false, [], ◌∷◌, codes}
use Rattle.sap_lattice.specs.Levels.{Levels}

-- Low is below high.
abbrev pub low_high : Levels
low_high = record { names = codes "low" ∷ codes "high" ∷ []; table = (true ∷ true ∷ []) ∷ (false ∷ true ∷ []) ∷ [] }
