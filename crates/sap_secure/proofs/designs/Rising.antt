-- Refusals rise in each cycle of a run.
use Rattle.std.proofs.Common.{List, [], ◌∷◌}
use Rattle.sap_meaning.specs.Prelude.{Program, Store, Tagged, cycle, run_from, RisesFrom, refused_sites}
use Rattle.sap_secure.specs.Designs.Designs.{EachRises}

pub each_rises : (p : Program) → ((inputs : List Tagged) (s : Store) → RisesFrom 1 (refused_sites (cycle p inputs s).refused))
    → (s : Store) (stream : List (List Tagged)) → EachRises (run_from p s stream)
each_rises p rises s [] = tt
each_rises p rises s (inputs ∷ rest) = (rises inputs s, each_rises p rises (cycle p inputs s).store rest)
