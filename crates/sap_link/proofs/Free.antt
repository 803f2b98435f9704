-- The free inputs of a system differ, so that what a stream gives comes to them in order.
use Rattle.std.proofs.Common.{◌≡◌, ℕ, suc, ◌<◌, ◌+◌, Bool, true, false, not, List, [], ◌∷◌, ◌++◌, map, filter, length, get_or, Option, Some, None, is_some, refl, ◌∙◌, ap, ap₂, subst, inl, inr, arith}
use Rattle.std.specs.List.{AllByRecursion, position_or_len}
use Rattle.std.proofs.lemmas.Bool.{cases_Bool}
use Rattle.sap_meaning.specs.Prelude.{Entity, Program, kind_is_input, Tagged}
use Rattle.sap_link.specs.Systems.{Endpoint, endpoint, same_endpoint, Wire, System, feeding, is_fed, inputs_from, inputs_of, free_inputs}
use Rattle.sap_link.specs.Composites.{CompositeState, given_to, received, received_by}
use Rattle.sap_link.specs.Laws.{FreeInputsReceive}
use Rattle.sap_link.proofs.Feeding.{same_is, same_self}

abbrev Differ : Endpoint → Endpoint → Type 0
Differ d e = same_endpoint d e ≡ false

abbrev AllDiffer : Endpoint → List Endpoint → Type 0
AllDiffer d es = AllByRecursion (Differ d) es

abbrev Distinct : List Endpoint → Type 0
Distinct [] = Unit {0}
Distinct (d ∷ ds) = AllDiffer d ds × Distinct ds

earlier_part : (i x j z : ℕ) → i < j → Differ (endpoint i x) (endpoint j z)
earlier_part i x j z less =
    elim (cases_Bool (same_endpoint (endpoint i x) (endpoint j z))) [
      | inl same ↦ let e : i ≡ j = ap (λ (d : Endpoint). d.part) (same_is (endpoint i x) (endpoint j z) same) in absurd (omega (arith, e, less))
      | inr other ↦ other
    ]

earlier_entity : (i x z : ℕ) → x < z → Differ (endpoint i x) (endpoint i z)
earlier_entity i x z less =
    elim (cases_Bool (same_endpoint (endpoint i x) (endpoint i z))) [
      | inl same ↦ let e : x ≡ z = ap (λ (d : Endpoint). d.entity) (same_is (endpoint i x) (endpoint i z) same) in absurd (omega (arith, e, less))
      | inr other ↦ other
    ]

later_inputs_differ : (i x k : ℕ) (es : List Entity) → x < k → AllDiffer (endpoint i x) (map (endpoint i) (inputs_from k es))
later_inputs_differ i x k [] less = tt
later_inputs_differ i x k (e ∷ es) less =
    elim (cases_Bool (kind_is_input e.kind)) [
      | inl is ↦ rw is (earlier_entity i x k less, later_inputs_differ i x (suc k) es (omega arith))
      | inr not_one ↦ rw not_one (later_inputs_differ i x (suc k) es (omega arith))
    ]

inputs_distinct : (i k : ℕ) (es : List Entity) → Distinct (map (endpoint i) (inputs_from k es))
inputs_distinct i k [] = tt
inputs_distinct i k (e ∷ es) =
    elim (cases_Bool (kind_is_input e.kind)) [
      | inl is ↦ rw is (later_inputs_differ i k (suc k) es (omega arith), inputs_distinct i (suc k) es)
      | inr not_one ↦ rw not_one (inputs_distinct i (suc k) es)
    ]

all_append : (d : Endpoint) (es fs : List Endpoint) → AllDiffer d es → AllDiffer d fs → AllDiffer d (es ++ fs)
all_append d [] fs a b = b
all_append d (e ∷ es) fs a b = (a.0, all_append d es fs a.1 b)

other_part_differs : (i x j : ℕ) (xs : List ℕ) → i < j → AllDiffer (endpoint i x) (map (endpoint j) xs)
other_part_differs i x j [] less = tt
other_part_differs i x j (z ∷ zs) less = (earlier_part i x j z less, other_part_differs i x j zs less)

later_parts_differ : (i x j : ℕ) (ps : List Program) → i < j → AllDiffer (endpoint i x) (inputs_of j ps)
later_parts_differ i x j [] less = tt
later_parts_differ i x j (p ∷ ps) less =
    all_append (endpoint i x) (map (endpoint j) (inputs_from 0 p.world.entities)) (inputs_of (suc j) ps) (other_part_differs i x j _ less)
    (later_parts_differ i x (suc j) ps (omega arith))

distinct_append : (i : ℕ) (xs : List ℕ) (es : List Endpoint) → ((x : ℕ) → AllDiffer (endpoint i x) es) → Distinct (map (endpoint i) xs)
    → Distinct es → Distinct (map (endpoint i) xs ++ es)
distinct_append i [] es apart a b = b
distinct_append i (x ∷ xs) es apart a b = (all_append (endpoint i x) (map (endpoint i) xs) es a.0 (apart x), distinct_append i xs es apart a.1 b)

parts_distinct : (i : ℕ) (ps : List Program) → Distinct (inputs_of i ps)
parts_distinct i [] = tt
parts_distinct i (p ∷ ps) =
    distinct_append i (inputs_from 0 p.world.entities) (inputs_of (suc i) ps) (λ x. later_parts_differ i x (suc i) ps (omega arith))
    (inputs_distinct i 0 p.world.entities) (parts_distinct (suc i) ps)

module _ (test : Endpoint → Bool) where
  filter_differ : (d : Endpoint) (es : List Endpoint) → AllDiffer d es → AllDiffer d (filter test es)
  filter_differ d [] all = tt
  filter_differ d (e ∷ es) all = elim (cases_Bool (test e)) [ inl y ↦ rw y (all.0, filter_differ d es all.1) | inr n ↦ rw n (filter_differ d es all.1) ]

  filter_distinct : (es : List Endpoint) → Distinct es → Distinct (filter test es)
  filter_distinct [] all = tt
  filter_distinct (e ∷ es) all = elim (cases_Bool (test e)) [ inl y ↦ rw y (filter_differ e es all.0, filter_distinct es all.1) | inr n ↦ rw n (filter_distinct es all.1) ]

abbrev at_place_of : (bottom : Tagged) → List Endpoint → List Tagged → Endpoint → Tagged
at_place_of bottom ds inputs e = get_or inputs (position_or_len (λ d. same_endpoint d e) ds) bottom

-- behind an endpoint that differs from all of them, what stands at their places is what stood there without it
behind : (bottom : Tagged) (d : Endpoint) (ds : List Endpoint) (t : Tagged) (ts : List Tagged) (es : List Endpoint) → AllDiffer d es
    → map (at_place_of bottom (d ∷ ds) (t ∷ ts)) es ≡ map (at_place_of bottom ds ts) es
behind bottom d ds t ts [] all = refl
behind bottom d ds t ts (e ∷ es) all = ap₂ (λ (u : Tagged) us. u ∷ us) here (behind bottom d ds t ts es all.1)
  where
    here : at_place_of bottom (d ∷ ds) (t ∷ ts) e ≡ at_place_of bottom ds ts e
    here =
        let n = position_or_len (λ c. same_endpoint c e) ds in
        let next : suc n ≡ 1 + n = omega arith in
        rw all.0 (subst (λ m. get_or (t ∷ ts) m bottom ≡ get_or ts n bottom) next refl)

in_order : (bottom : Tagged) (ds : List Endpoint) (inputs : List Tagged) → Distinct ds → length inputs ≡ length ds → map (at_place_of bottom ds inputs) ds ≡ inputs
in_order bottom [] [] all same = refl
in_order bottom [] (t ∷ ts) all same = absurd (omega arith)
in_order bottom (d ∷ ds) [] all same = absurd (omega arith)
in_order bottom (d ∷ ds) (t ∷ ts) all same = ap₂ (λ (u : Tagged) us. u ∷ us) here (behind bottom d ds t ts ds all.0 ∙ in_order bottom ds ts all.1 (omega arith))
  where
    here : at_place_of bottom (d ∷ ds) (t ∷ ts) d ≡ t
    here = rw (same_self d) refl

no_feed : (feeds : Option Wire) → not (is_some feeds) ≡ true → feeds ≡ None
no_feed None is = refl
no_feed (Some w) is = cc

module _ (y : System) (states : CompositeState) (inputs : List Tagged) where
  free_given : (es : List Endpoint) → map (received y states inputs) (filter (λ e. not (is_fed y.wires e)) es) ≡ map (given_to y inputs) (filter (λ e. not (is_fed y.wires e)) es)
  free_given [] = refl
  free_given (e ∷ es) =
      elim (cases_Bool (not (is_fed y.wires e))) [
        | inl free ↦ rw free (ap₂ (λ (u : Tagged) us. u ∷ us) (ap (received_by y states inputs e) (no_feed (feeding y.wires e) free)) (free_given es))
        | inr fed ↦ rw fed (free_given es)
      ]

pub free_receive : FreeInputsReceive
free_receive y states inputs same =
    free_given y states inputs (inputs_of 0 y.parts)
    ∙ in_order (record { number = 0; level = y.order.bottom }) (free_inputs y) inputs
    (filter_distinct (λ e. not (is_fed y.wires e)) (inputs_of 0 y.parts) (parts_distinct 0 y.parts)) same
