-- How many cycles a run has.
use Rattle.std.proofs.Common.{◌≡◌, ℕ, suc, List, [], ◌∷◌, Option, Some, length, ap, refl}
use Rattle.sap_maps.specs.Maps.{Valuation}
use Rattle.sap_net.specs.Prelude.{Net, IsRunAfter}

pub run_count : (n : Net) (b : Option Valuation) (xss : List (List ℕ)) (vs : List Valuation) → IsRunAfter n b xss vs → length vs ≡ length xss
run_count n b [] [] run = refl
run_count n b [] (v ∷ vs) run = absurd run
run_count n b (xs ∷ xss) [] run = absurd run
run_count n b (xs ∷ xss) (v ∷ vs) run = ap suc (run_count n (Some v) xss vs run.1)
