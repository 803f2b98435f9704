-- A netlist that is stepped on line after line, and what is told of it.
use Rattle.sap_lemmas.proofs.Common.{◌≡◌, ◌≤◌, ℕ, ◌+◌, List, [], ◌∷◌, ◌++◌, Option, Some, None, append_assoc, length, length-append, map, sym, ap, ap₂, ◌∙◌, subst, arith, last_or, map-append, length-map}
use Rattle.std.proofs.lemmas.List.{append_cancel_left}
use Rattle.sap_maps.specs.Maps.{Valuation}
use Rattle.sap_meaning.specs.Cycle.{Tagged as Given}
use Rattle.sap_net.specs.Prelude.{Net, IsCycle, IsRun, observed}
use Rattle.sap_cycle.specs.Running.{Running, Shows, ShowsNext}
use Rattle.sap_sim.specs.Stepped.{HasMore, Stepped, IsRunOn, IsAfter, TellsMore, TellsAll}
use Rattle.sap_sim.specs.Told.{told_from}
use Rattle.sap_sim.proofs.OneMore.{run_split, run_ends, EndsIn, last_pushed, run_front, no_run}
use Rattle.sap_sim.proofs.Runs.{run_count}
use Rattle.sap_sim.proofs.Told.{mapped_push, mapped_split}

-- behind what stands behind other bytes stand further ones
pub more_behind : (most others : ℕ) (first old now : List ℕ) → HasMore most first old → HasMore others old now → HasMore (most + others) first now
more_behind most others first old now before after =
    let whole : now ≡ first ++ (before.0 ++ after.0) = after.1 ∙ ap (λ (l : List ℕ). l ++ after.0) before.1 ∙ append_assoc first before.0 after.0 in
    let size : length (before.0 ++ after.0) ≡ length before.0 + length after.0 = length-append before.0 after.0 in
    (before.0 ++ after.0, whole, omega (arith, size, before.2, after.2))

pub more_size : (most : ℕ) (old now : List ℕ) → HasMore most old now → length now ≤ length old + most
more_size most old now has =
    let size : length now ≡ length old + length has.0 = ap length has.1 ∙ length-append old has.0 in
    omega (arith, size, has.2)

-- within a larger number, of other names for the same bytes
pub more_within : (most room : ℕ) (a b old now : List ℕ) → a ≡ old → now ≡ b → most ≤ room → HasMore most a b → HasMore room old now
more_within most room a b old now first last fits has = (has.0, last ∙ has.1 ∙ ap (λ (l : List ℕ). l ++ has.0) first, omega (arith, fits, has.2))

module _ (n : Net) (numbers : List Given → List ℕ) where
  numbers_more : (lines : List (List Given)) (line : List Given) → map numbers (lines ++ line ∷ []) ≡ map numbers lines ++ numbers line ∷ []
  numbers_more lines line = map-append numbers lines (line ∷ [])

  -- the run with a line more
  pub line_split : (lines : List (List Given)) (line : List Given) (run : List Valuation) (v : Valuation) → IsRunOn n numbers (lines ++ line ∷ []) (run ++ v ∷ [])
      → IsRunOn n numbers lines run × IsCycle n (last_or None run) (numbers line) v
  line_split lines line run v h =
      run_split n None (map numbers lines) (numbers line) run v (subst (λ (xss : List (List ℕ)). IsRun n xss (run ++ v ∷ [])) (numbers_more lines line) h)

  pub line_ends : (lines : List (List Given)) (line : List Given) (vs : List Valuation) → IsRunOn n numbers (lines ++ line ∷ []) vs
      → EndsIn n None (map numbers lines) (numbers line) vs
  line_ends lines line vs h =
      run_ends n None (map numbers lines) (numbers line) vs (subst (λ (xss : List (List ℕ)). IsRun n xss vs) (numbers_more lines line) h)

  module _ (tell : ℕ → Valuation → List ℕ) where
    abbrev told : List Valuation → List ℕ
    told run = told_from tell 1 (map (observed n) run)

    pub told_begins : TellsAll tell n numbers [] []
    told_begins run h = ap told (sym (no_run n None run h))

    pub told_goes_on : (lines : List (List Given)) (line : List Given) (text more : List ℕ) → TellsAll tell n numbers lines text
        → TellsMore tell n numbers (lines ++ line ∷ []) (length lines + 1) [] more → TellsAll tell n numbers (lines ++ line ∷ []) (text ++ more)
    told_goes_on lines line text more before now vs h =
        let e = line_ends lines line vs h in
        let whole : IsRunOn n numbers (lines ++ line ∷ []) (e.run ++ e.last ∷ []) = subst (IsRunOn n numbers (lines ++ line ∷ [])) e.whole h in
        let count : length e.run ≡ length (map numbers lines) = run_count n None (map numbers lines) e.run e.is_run in
        let counts : 1 + length e.run ≡ length lines + 1 = omega (arith, count, length-map lines numbers) in
        ap₂ (λ (ys zs : List ℕ). ys ++ zs) (before e.run e.is_run) (now e.run e.last whole)
        ∙ ap (λ (k : ℕ). told e.run ++ tell k (observed n e.last)) (sym counts)
        ∙ sym (mapped_push tell (observed n) 1 e.run e.last)
        ∙ ap told (sym e.whole)

    -- what is told behind old bytes is told by itself
    pub told_alone : (lines : List (List Given)) (cycle : ℕ) (old more now : List ℕ) → now ≡ old ++ more → TellsMore tell n numbers lines cycle old now
        → TellsMore tell n numbers lines cycle [] more
    told_alone lines cycle old more now is tells run v h = append_cancel_left old more (tell cycle (observed n v)) (sym is ∙ tells run v h)

    -- what is told of the first lines begins what is told of all
    pub told_part : (lines more : List (List Given)) (text : List ℕ) (run : List Valuation) → IsRunOn n numbers (lines ++ more) run → TellsAll tell n numbers lines text
        → (rest : List ℕ) × (told run ≡ text ++ rest)
    told_part lines more text run is begun =
        let p = run_front n None (map numbers lines) (map numbers more) run (subst (λ (xss : List (List ℕ)). IsRun n xss run) (map-append numbers lines more) is) in
        let rest = told_from tell (1 + length p.front) (map (observed n) p.rest) in
        (rest, ap told p.whole ∙ mapped_split tell (observed n) 1 p.front p.rest ∙ ap (λ (ys : List ℕ). ys ++ rest) (sym (begun p.front p.is_run)))

-- before the first line
pub unstepped_shows : (n : Net) (numbers : List Given → List ℕ) (r : Running) → Shows r None → (run : List Valuation) → IsRunOn n numbers [] run → Shows r (last_or None run)
unstepped_shows n numbers r shows run h = subst (λ (vs : List Valuation). Shows r (last_or None vs)) (sym (no_run n None run h)) shows

-- a step on a line more, where the numbers of its inputs are by the netlist
module _ (numbers : Net → List Given → List ℕ) {Plan : Type 0} (IsPlanned : Stepped Plan
    → Type 0) (n : Net) (s : Stepped Plan) (lines : List (List Given)) (line : List Given) (r : Running)
    (at : IsAfter IsPlanned n (numbers n) lines s) (same : r.net ≡ s.runner.net) (next : ShowsNext s.runner (numbers s.runner.net line) r) where
  pub cycle_shown : (run : List Valuation) (v : Valuation) → IsRunOn n (numbers n) lines run → IsCycle n (last_or None run) (numbers n line) v → Shows r (Some v)
  cycle_shown run v before cycle =
      let there : IsCycle s.runner.net (last_or None run) (numbers s.runner.net line) v = subst (λ (q : Net). IsCycle q (last_or None run) (numbers q line) v) (sym at.net) cycle in
      next (last_or None run) v (at.shows run before) there

  last_shown : (run : List Valuation) → IsRunOn n (numbers n) (lines ++ line ∷ []) run → Shows r (last_or None run)
  last_shown run h =
      let e = line_ends n (numbers n) lines line run h in
      subst (λ (o : Option Valuation). Shows r o) (sym (ap (last_or None) e.whole ∙ last_pushed None e.run e.last)) (cycle_shown e.run e.last e.is_run e.cycle)

  abbrev stepped : Stepped Plan
  stepped = record { runner = r; plan = s.plan; fields = s.fields; room = s.room }

  pub after_line : IsPlanned stepped → IsAfter IsPlanned n (numbers n) (lines ++ line ∷ []) stepped
  after_line planned = record { net = same ∙ at.net; planned = planned; shows = last_shown }
