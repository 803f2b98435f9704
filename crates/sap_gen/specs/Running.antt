-- The store in which a run from another one ends.
use Rattle.std.specs.Prelude.{List, [], ◌∷◌}
use Rattle.sap_meaning.specs.Store.{Store, After}

-- The store after the last cycle.
abbrev pub last_store : Store → List After → Store
last_store s [] = s
last_store s (a ∷ rest) = last_store a.store rest
