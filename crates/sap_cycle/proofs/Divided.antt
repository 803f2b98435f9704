-- Steps that are divided into runs.
use Rattle.sap_lemmas.proofs.Common.{◌≡◌, ℕ, ◌+◌, ◌≤◌, List, [], ◌∷◌, ◌++◌, length, map, take, drop, sym, ap, ◌∙◌, arith, append_assoc, ◌-◌, slice_range, take-add, append-nil, map-append, take-append-drop}
use Rattle.sap_cycle.specs.declared.instructions.Placed.{Placed}
use Rattle.sap_cycle.specs.declared.runs.Run.{Run}
use Rattle.sap_cycle.specs.declared.steps.Step.{Step}
use Rattle.sap_cycle.specs.Instructions.{placed_step}
use Rattle.sap_cycle.specs.Runs.{run_steps, steps_of_runs}

-- the runs are of the steps up to a place
pub record Divided (steps : List Placed) (start : ℕ) (runs : List Run) : Type 0 where
  pub within : start ≤ length steps
  pub are : (others : List Step) → steps_of_runs others runs ≡ map (placed_step others) (take start steps)

runs_push : (others : List Step) (rs : List Run) (r : Run) → steps_of_runs others (rs ++ r ∷ []) ≡ steps_of_runs others rs ++ run_steps others r
runs_push others [] r = append-nil (run_steps others r)
runs_push others (q ∷ rs) r = ap (λ l. run_steps others q ++ l) (runs_push others rs r) ∙ sym (append_assoc (run_steps others q) (steps_of_runs others rs) (run_steps others r))

-- the elements up to a place are those up to an earlier one and those between
take_more : {A : Type 0} (xs : List A) (start stop : ℕ) → start ≤ stop → take stop xs ≡ take start xs ++ slice_range xs start stop
take_more {A} xs start stop le =
    let k : start + (stop - start) ≡ stop = omega (arith, le) in
    ap (λ n. take n xs) (sym k) ∙ take-add start (stop - start) xs

pub divided_more : (steps : List Placed) (start stop : ℕ) (runs new : List Run) (run : Run) → Divided steps start runs → start ≤ stop → stop ≤ length steps → new ≡ runs ++ run ∷ []
    → ((others : List Step) → run_steps others run ≡ map (placed_step others) (slice_range steps start stop)) → Divided steps stop new
divided_more steps start stop runs new run d le within e is =
    record {
      within = within;
      are = λ others.
          ap (steps_of_runs others) e ∙ runs_push others runs run
          ∙ ap (λ l. l ++ run_steps others run) (d.are others)
          ∙ ap (λ l. map (placed_step others) (take start steps) ++ l) (is others)
          ∙ sym (ap (map (placed_step others)) (take_more steps start stop le) ∙ map-append (placed_step others) (take start steps) (slice_range steps start stop));
    }

pub divided_all : (steps : List Placed) (start : ℕ) (runs new : List Run) (run : Run) → Divided steps start runs → new ≡ runs ++ run ∷ []
    → ((others : List Step) → run_steps others run ≡ map (placed_step others) (drop start steps)) → (others : List Step) → steps_of_runs others new ≡ map (placed_step others) steps
divided_all steps start runs new run d e is others =
    ap (steps_of_runs others) e ∙ runs_push others runs run
    ∙ ap (λ l. l ++ run_steps others run) (d.are others)
    ∙ ap (λ l. map (placed_step others) (take start steps) ++ l) (is others)
    ∙ sym (ap (map (placed_step others)) (sym (take-append-drop start steps)) ∙ map-append (placed_step others) (take start steps) (drop start steps))
