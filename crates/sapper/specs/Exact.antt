-- When each answer comes, exactly.
use Rattle.std.specs.Prelude.{◌≡◌, ◌≢◌, ◌⊎◌, ℕ, List}
use Rattle.sap_desk.specs.Desk.{Told}
use Rattle.sap_files.specs.Ending.{Ending, status_of}
use Rattle.sap_files.specs.Asks.{Cause}
use Rattle.sap_commands.specs.Commands.{asks_for}

-- An answer other than 6 (a call failed) and 7 (out of memory) comes only for a cause in the arguments and files. If
-- there is a cause, its answer comes, or 6 or 7.
pub record Exact (words : List (List ℕ)) (t : Told) (answer : ℕ) : Type 0 where
  pub only : answer ≢ 6 → answer ≢ 7 → (e : Ending) × Cause (asks_for words) t e × (answer ≡ status_of e)
  pub always : (e : Ending) → Cause (asks_for words) t e → (answer ≡ status_of e) ⊎ ((answer ≡ 6) ⊎ (answer ≡ 7))
