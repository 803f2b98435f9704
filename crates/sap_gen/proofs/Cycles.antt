-- A run, a cycle after another.
use Rattle.sap_lemmas.proofs.Common.{◌≡◌, ℕ, zero, suc, ◌+◌, ◌-◌, ◌<◌, ◌≤◌, List, [], ◌∷◌, length, map, refl, sym, ap, ap₂, subst, ◌∙◌, arith, slice_get, range_with_len, sum_by-cons}
use Rattle.std.proofs.lemmas.List.FromFn.{length-map-range_with_len}
use Rattle.sap_lattice.specs.Levels.{Levels}
use Rattle.sap_meaning.specs.Prelude.{Program, InputsFit, Store, After, Refusal, Tagged, cycle, run_from}
use Rattle.sap_interface.specs.StandsFor.{Named}
use Rattle.sap_sim.specs.Labelled.LabelledRows.{labelled_row}
use Rattle.sap_gen.specs.Running.{last_store}
use Rattle.sap_gen.specs.Stream.{cycle_count, generated_stream, given}
use Rattle.sap_gen.specs.Text.{refusal_count, row_shown}

-- what the input gets in k cycles behind cycle c
abbrev pub stream_behind : (n c k : ℕ) → List (List Tagged)
stream_behind n c k = map (λ c. given n c ∷ []) (range_with_len (c + 1) k)

one_less : (c last : ℕ) → c < last → last - c ≡ suc (last - (c + 1))
one_less c last l = omega arith

count_more : (p : Program) (n c k : ℕ) (s : Store)
    → refusal_count (run_from p s (stream_behind n c (suc k))) ≡ length (cycle p (given n (c + 1) ∷ []) s).refused
    + refusal_count (run_from p (cycle p (given n (c + 1) ∷ []) s).store (stream_behind n (c + 1) k))
count_more p n c k s = sum_by-cons (λ a. length a.refused) (cycle p (given n (c + 1) ∷ []) s) (run_from p (cycle p (given n (c + 1) ∷ []) s).store (stream_behind n (c + 1) k))

pub count_step : (p : Program) (n c last refusals count total : ℕ) (s t : Store) → c < last
    → refusals + refusal_count (run_from p s (stream_behind n c (last - c))) ≡ total
    → count ≡ length (cycle p (given n (c + 1) ∷ []) s).refused → t ≡ (cycle p (given n (c + 1) ∷ []) s).store
    → refusals + count + refusal_count (run_from p t (stream_behind n (c + 1) (last - (c + 1)))) ≡ total
count_step p n c last refusals count total s t l before counted moved =
    let k = last - (c + 1) in
    let a : refusal_count (run_from p s (stream_behind n c (last - c)))
    ≡ length (cycle p (given n (c + 1) ∷ []) s).refused + refusal_count (run_from p (cycle p (given n (c + 1) ∷ []) s).store (stream_behind n (c + 1) (last - (c + 1)))) =
    ap (λ (k : ℕ). refusal_count (run_from p s (stream_behind n c k))) (one_less c last l) ∙ count_more p n c (last - (c + 1)) s in
    let b : refusal_count (run_from p t (stream_behind n (c + 1) (last - (c + 1))))
    ≡ refusal_count (run_from p (cycle p (given n (c + 1) ∷ []) s).store (stream_behind n (c + 1) (last - (c + 1)))) =
    ap (λ (u : Store). refusal_count (run_from p u (stream_behind n (c + 1) (last - (c + 1))))) moved in
    omega arith

pub store_step : (p : Program) (n c last : ℕ) (s t end : Store) → c < last
    → last_store s (run_from p s (stream_behind n c (last - c))) ≡ end → t ≡ (cycle p (given n (c + 1) ∷ []) s).store
    → last_store t (run_from p t (stream_behind n (c + 1) (last - (c + 1)))) ≡ end
store_step p n c last s t end l before moved =
    ap (λ (u : Store). last_store u (run_from p u (stream_behind n (c + 1) (last - (c + 1))))) moved
    ∙ ap (λ (k : ℕ). last_store s (run_from p s (stream_behind n c k))) (sym (one_less c last l))
    ∙ before

-- the row of the last cycle

last_shown : (ls : Levels) (d : Named) (c : ℕ) (s : Store) (run : List After) (k : ℕ) → length run ≡ k + 1
    → row_shown ls d c (slice_get run k) ≡ labelled_row ls d c (last_store s run)
last_shown ls d c s [] k e = absurd (omega (arith, e))
last_shown ls d c s (a ∷ []) zero e = refl
last_shown ls d c s (a ∷ []) (suc k) e = absurd (omega (arith, e))
last_shown ls d c s (a ∷ (b ∷ rest)) zero e = absurd (omega (arith, e))
last_shown ls d c s (a ∷ (b ∷ rest)) (suc k) e = last_shown ls d c a.store (b ∷ rest) k (omega (arith, e))

run_length : (p : Program) (s : Store) (stream : List (List Tagged)) → length (run_from p s stream) ≡ length stream
run_length p s [] = refl
run_length p s (inputs ∷ rest) = ap (λ (k : ℕ). suc k) (run_length p (cycle p inputs s).store rest)

pub last_row : (ls : Levels) (d : Named) (p : Program) (s : Store) (n : ℕ) → 1 ≤ n
    → row_shown ls d (cycle_count n) (slice_get (run_from p s (generated_stream n)) (cycle_count n - 1))
    ≡ labelled_row ls d (cycle_count n) (last_store s (run_from p s (generated_stream n)))
last_row ls d p s n some =
    let e : length (run_from p s (generated_stream n)) ≡ cycle_count n = run_length p s (generated_stream n) ∙ length-map-range_with_len (λ c. given n c ∷ []) 1 (cycle_count n) in
    last_shown ls d (cycle_count n) s (run_from p s (generated_stream n)) (cycle_count n - 1) (omega (arith, e))

-- the same program and the same inputs

pub fits_here : (p q : Program) (x y : List Tagged) → InputsFit p.world x → q ≡ p → y ≡ x → InputsFit q.world y
fits_here p q x y fits e f = subst (λ (z : List Tagged). InputsFit q.world z) (sym f) (subst (λ (r : Program). InputsFit r.world x) (sym e) fits)

pub store_here : (p q : Program) (x y : List Tagged) (s t : Store) → q ≡ p → y ≡ x → t ≡ (cycle q y s).store → t ≡ (cycle p x s).store
store_here p q x y s t e f h = h ∙ ap₂ (λ (r : Program) (z : List Tagged). (cycle r z s).store) e f

pub count_here : (p q : Program) (x y : List Tagged) (s : Store) (rs : List Refusal) (count : ℕ) → q ≡ p → y ≡ x → count ≡ length rs
    → rs ≡ (cycle q y s).refused → count ≡ length (cycle p x s).refused
count_here p q x y s rs count e f h k = h ∙ ap length k ∙ ap₂ (λ (r : Program) (z : List Tagged). length (cycle r z s).refused) e f
