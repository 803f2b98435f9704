-- Marks of two lists of refusals.
use Rattle.std.proofs.Common.{◌≡◌, ℕ, List, [], ◌∷◌, ◌++◌, Option, Some, refl}
use Rattle.std.specs.Prelude.{slice_set}
use Rattle.sap_meaning.specs.Store.{Refusal}
use Rattle.sap_run.specs.Runs.{marked}

pub marked-append : (a b : List Refusal) (m : List (Option ℕ)) → marked (a ++ b) m ≡ marked b (marked a m)
marked-append [] b m = refl
marked-append (r ∷ a) b m = marked-append a b (slice_set m r.site (Some r.level))

pub ruleset marks = (marked-append)
