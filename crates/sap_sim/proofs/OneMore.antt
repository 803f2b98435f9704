-- A run with a cycle more.
use Rattle.sap_lemmas.proofs.Common.{◌≡◌, ℕ, List, [], ◌∷◌, ◌++◌, Option, Some, refl, ap, last_or}
use Rattle.sap_maps.specs.Maps.{Valuation}
use Rattle.sap_net.specs.Prelude.{Net, IsCycle, IsRunAfter}

-- the last cycle, and the run before it
pub run_split : (n : Net) (b : Option Valuation) (xss : List (List ℕ)) (xs : List ℕ) (run : List Valuation) (v : Valuation) → IsRunAfter n b (xss ++ xs ∷ []) (run ++ v ∷ [])
    → IsRunAfter n b xss run × IsCycle n (last_or b run) xs v
run_split n b [] xs [] v h = (tt, h.0)
run_split n b [] xs (w ∷ []) v h = absurd h.1
run_split n b [] xs (w ∷ (u ∷ us)) v h = absurd h.1
run_split n b (ys ∷ []) xs [] v h = absurd h.1
run_split n b (ys ∷ (zs ∷ zss)) xs [] v h = absurd h.1
run_split n b (ys ∷ yss) xs (w ∷ ws) v h = let r = run_split n (Some w) yss xs ws v h.1 in ((h.0, r.0), r.1)

pub record EndsIn (n : Net) (b : Option Valuation) (xss : List (List ℕ)) (xs : List ℕ) (vs : List Valuation) : Type 0 where
  pub run : List Valuation
  pub last : Valuation
  pub whole : vs ≡ run ++ last ∷ []
  pub is_run : IsRunAfter n b xss run
  pub cycle : IsCycle n (last_or b run) xs last

pub run_ends : (n : Net) (b : Option Valuation) (xss : List (List ℕ)) (xs : List ℕ) (vs : List Valuation) → IsRunAfter n b (xss ++ xs ∷ []) vs → EndsIn n b xss xs vs
run_ends n b [] xs [] h = absurd h
run_ends n b [] xs (v ∷ []) h = record { run = []; last = v; whole = refl; is_run = tt; cycle = h.0 }
run_ends n b [] xs (v ∷ (w ∷ ws)) h = absurd h.1
run_ends n b (ys ∷ yss) xs [] h = absurd h
run_ends n b (ys ∷ yss) xs (v ∷ vs) h =
    let r = run_ends n (Some v) yss xs vs h.1 in
    record { run = v ∷ r.run; last = r.last; whole = ap (λ (ws : List Valuation). v ∷ ws) r.whole; is_run = (h.0, r.is_run); cycle = r.cycle }

pub last_pushed : (b : Option Valuation) (run : List Valuation) (v : Valuation) → last_or b (run ++ v ∷ []) ≡ Some v
last_pushed b [] v = refl
last_pushed b (w ∷ ws) v = last_pushed (Some w) ws v

-- the run on the first lists, and behind it that on the others
pub record HasFront (n : Net) (b : Option Valuation) (xss yss : List (List ℕ)) (vs : List Valuation) : Type 0 where
  pub front : List Valuation
  pub rest : List Valuation
  pub whole : vs ≡ front ++ rest
  pub is_run : IsRunAfter n b xss front
  pub goes_on : IsRunAfter n (last_or b front) yss rest

pub run_front : (n : Net) (b : Option Valuation) (xss yss : List (List ℕ)) (vs : List Valuation) → IsRunAfter n b (xss ++ yss) vs → HasFront n b xss yss vs
run_front n b [] yss vs h = record { front = []; rest = vs; whole = refl; is_run = tt; goes_on = h }
run_front n b (xs ∷ xss) yss [] h = absurd h
run_front n b (xs ∷ xss) yss (v ∷ vs) h =
    let r = run_front n (Some v) xss yss vs h.1 in
    record { front = v ∷ r.front; rest = r.rest; whole = ap (λ (ws : List Valuation). v ∷ ws) r.whole; is_run = (h.0, r.is_run); goes_on = r.goes_on }

pub no_run : (n : Net) (b : Option Valuation) (run : List Valuation) → IsRunAfter n b [] run → run ≡ []
no_run n b [] h = refl
no_run n b (v ∷ vs) h = absurd h
