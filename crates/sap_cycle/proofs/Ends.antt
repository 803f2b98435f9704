-- Steps that are taken a run after another.
use Rattle.std.proofs.Common.{◌≡◌, ℕ, suc, ◌+◌, ◌<◌, List, [], ◌∷◌, ◌++◌, length, drop, get_or, sym, ap, ap₂, ◌∙◌, subst, refl, arith, drop-cons}
use Rattle.sap_cycle.specs.declared.runs.Run.{Run}
use Rattle.sap_cycle.specs.declared.steps.Part.{Part}
use Rattle.sap_cycle.specs.declared.steps.Step.{Step}
use Rattle.sap_cycle.specs.Runs.{run_steps, steps_of_runs}
use Rattle.sap_cycle.specs.Steps.{settled, AreReady}

settled_parts : (cells : List ℕ) (parts : List Part) (ps qs : List (ℕ × Step)) (values : List ℕ)
    → settled cells parts (ps ++ qs) values ≡ settled cells parts qs (settled cells parts ps values)
settled_parts cells parts [] qs values = refl
settled_parts cells parts (p ∷ ps) qs values = settled_parts cells parts ps qs _

ready_parts : (cells : List ℕ) (parts : List Part) (ps qs : List (ℕ × Step)) (values : List ℕ) → AreReady cells parts (ps ++ qs) values
    → AreReady cells parts ps values × AreReady cells parts qs (settled cells parts ps values)
ready_parts cells parts [] qs values h = (tt, h)
ready_parts cells parts (p ∷ ps) qs values h = let go = ready_parts cells parts ps qs _ h.2 in ((h.0, h.1, go.0), go.1)

-- the next of the runs that are left
pub next_run : (runs : List Run) (k : ℕ) (run : Run) → k < length runs → run ≡ get_or runs k run → drop k runs ≡ run ∷ drop (k + 1) runs
next_run runs k run lt is =
    let e : suc k ≡ k + 1 = omega arith in
    drop-cons runs k run lt ∙ ap₂ (λ (x : Run) (n : ℕ). x ∷ drop n runs) (sym is) e

-- these runs are left, and give what all gave
pub record Left (cells : List ℕ) (parts : List Part) (others : List Step) (whole : List ℕ) (runs : List Run) (values : List ℕ) : Type 0 where
  pub gives : settled cells parts (steps_of_runs others runs) values ≡ whole
  pub ready : AreReady cells parts (steps_of_runs others runs) values

pub run_ready : (cells : List ℕ) (parts : List Part) (others : List Step) (whole : List ℕ) (run : Run) (runs rest : List Run) (values : List ℕ)
    → Left cells parts others whole runs values → runs ≡ run ∷ rest
    → AreReady cells parts (run_steps others run) values
run_ready cells parts others whole run runs rest values l e =
    (ready_parts cells parts (run_steps others run) (steps_of_runs others rest) values
    (subst (λ (rs : List Run). AreReady cells parts (steps_of_runs others rs) values) e l.ready)).0

pub run_more : (cells : List ℕ) (parts : List Part) (others : List Step) (whole : List ℕ) (run : Run) (runs rest : List Run)
    (values new : List ℕ) → Left cells parts others whole runs values → runs ≡ run ∷ rest
    → new ≡ settled cells parts (run_steps others run) values → Left cells parts others whole rest new
run_more cells parts others whole run runs rest values new l e is =
    let first = run_steps others run in
    let behind = steps_of_runs others rest in
    record {
      gives =
          ap (settled cells parts behind) is ∙ sym (settled_parts cells parts first behind values)
          ∙ sym (ap (λ (rs : List Run). settled cells parts (steps_of_runs others rs) values) e) ∙ l.gives;
      ready =
          subst (AreReady cells parts behind) (sym is)
          (ready_parts cells parts first behind values (subst (λ (rs : List Run). AreReady cells parts (steps_of_runs others rs) values) e l.ready)).1;
    }
