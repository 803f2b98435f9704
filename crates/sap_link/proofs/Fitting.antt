-- What the inputs of a part receive fits.
use Rattle.std.proofs.Common.{◌≡◌, ℕ, suc, ◌<◌, ◌^◌, ◌+◌, List, [], ◌∷◌, map, get_or, Option, Some, None, refl, sym, ap, subst, inl, inr, arith}
use Rattle.std.specs.List.{AllByRecursion, position_or_len}
use Rattle.std.proofs.Math.Pow.{pow_pos}
use Rattle.std.proofs.lemmas.Bool.{cases_Bool}
use Rattle.sap_lattice.specs.Order.{Order, Laws}
use Rattle.sap_meaning.specs.Prelude.{nothing, width, own, Tagged, AllFit, input_widths, InputsFit as InputsFitPart}
use Rattle.sap_meaning.specs.Laws.{NumbersFit}
use Rattle.sap_link.specs.Systems.{Endpoint, endpoint, same_endpoint, Wire, System, part, world, width_at, IsPart, feeding, inputs_in, free_inputs, Connects}
use Rattle.sap_link.specs.Composites.{CompositeState, states_of, content_at, let_through, carried, received, received_by, part_inputs, composite_cycle, stream_of_part, InputsFit}
use Rattle.sap_link.specs.Laws.{FineSystem, SizedSystem, PartsFit, CompositesFit, StreamsOfPartsFit}
use Rattle.sap_link.proofs.Feeding.{same_is, found_fits, found_leads}
use Rattle.sap_link.proofs.Receiving.{widths_in_order}

abbrev pub Fit : (levels width : ℕ) → Tagged → Type 0
Fit levels u t = (t.number < 2 ^ u) × (t.level < levels)

all_fit : (levels : ℕ) (u : ℕ → ℕ) (f : ℕ → Tagged) → ((x : ℕ) → Fit levels (u x) (f x)) → (xs : List ℕ) → AllFit levels (map u xs) (map f xs)
all_fit levels u f fits [] = tt
all_fit levels u f fits (x ∷ xs) = ((fits x).0, (fits x).1, all_fit levels u f fits xs)

-- what stands at an endpoint's place in what fits, fits that endpoint
place_fits : (levels : ℕ) (u : Endpoint → ℕ) (free : List Endpoint) (inputs : List Tagged) (bottom : ℕ) → bottom < levels
    → AllFit levels (map u free) inputs → (e : Endpoint) → Fit levels (u e) (get_or inputs (position_or_len (λ d. same_endpoint d e) free) (record { number = 0; level = bottom }))
place_fits levels u [] [] bottom low fit e = (pow_pos (u e), low)
place_fits levels u [] (t ∷ ts) bottom low fit e = absurd fit
place_fits levels u (d ∷ free) [] bottom low fit e = absurd fit
place_fits levels u (d ∷ free) (t ∷ ts) bottom low fit e =
    elim (cases_Bool (same_endpoint d e)) [
      | inl same ↦ rw same (subst (λ x. Fit levels (u x) t) (same_is d e same) (fit.0, fit.1))
      | inr other ↦
          let n = position_or_len (λ c. same_endpoint c e) free in
          let next : suc n ≡ 1 + n = omega arith in
          rw other (subst (λ m. Fit levels (u e) (get_or (t ∷ ts) m (record { number = 0; level = bottom }))) next (place_fits levels u free ts bottom low fit.2 e))
    ]

through_fits : (o : Order) (u : ℕ) (level : Option ℕ) (v : Tagged) → ((t : ℕ) → level ≡ Some t → t < o.count) → Fit o.count u v → Fit o.count u (let_through o level v)
through_fits o u None v low fit = fit
through_fits o u (Some t) v low fit = elim (cases_Bool (o.le v.level t)) [ inl below ↦ (rw below fit.0, low t refl) | inr above ↦ (rw above (pow_pos u), low t refl) ]

no_more : (j : ℕ) → 0 + j ≡ j
no_more j = omega arith

module _ (y : System) (fine : FineSystem y) (laws : Laws y.order) (states : CompositeState) (fits : PartsFit y states) (inputs : List Tagged) (fit : InputsFit y inputs) where
  content_fits : (w : Wire) → Connects y w → Fit y.order.count (width_at y w.to) (content_at y states w.from)
  content_fits w good =
      let f = fits w.from.part good.from_part in (
        subst (λ u. (content_at y states w.from).number < 2 ^ u) good.widths (f.numbers (own w.from.entity)),
        subst (λ (o : Order). (content_at y states w.from).level < o.count) (fine.order w.from.part good.from_part) (f.levels (own w.from.entity)),
      )

  by_fits : (e : Endpoint) (feeds : Option Wire) → feeding y.wires e ≡ feeds → Fit y.order.count (width_at y e) (received_by y states inputs e feeds)
  by_fits e None is = place_fits y.order.count (width_at y) (free_inputs y) inputs y.order.bottom laws.bottom_is_level fit e
  by_fits e (Some w) is =
      let good = found_fits y y.wires e fine.wires.each w is in
      subst (λ d. Fit y.order.count (width_at y d) (carried y states w)) (found_leads y.wires e w is)
      (through_fits y.order (width_at y w.to) w.level (content_at y states w.from) good.level (content_fits w good))

  pub part_fits : (i : ℕ) → IsPart y i → InputsFitPart (world y i) (part_inputs y states inputs i)
  part_fits i is =
      let count : y.order.count ≡ (world y i).order.count = ap (λ (o : Order). o.count) (sym (fine.order i is)) in
      let widths = widths_in_order (world y i).entities (world y i).entities 0 (λ j. ap (λ (n : ℕ). get_or (world y i).entities n nothing) (no_more j)) in
      subst (λ n. AllFit n (input_widths (world y i).entities) (part_inputs y states inputs i)) count
      (subst (λ us. AllFit y.order.count us (part_inputs y states inputs i)) (sym widths)
      (all_fit y.order.count (width (world y i)) (λ x. received y states inputs (endpoint i x))
      (λ x. by_fits (endpoint i x) (feeding y.wires (endpoint i x)) refl) (inputs_in (world y i))))

module _ (numbers : NumbersFit) (y : System) (fine : FineSystem y) (sized : SizedSystem y) where
  laws_of : (i : ℕ) → IsPart y i → Laws y.order
  laws_of i is = subst (λ (o : Order). Laws o) (fine.order i is) (fine.parts i is).order

  later_fits : (states : CompositeState) → PartsFit y states → (inputs : List Tagged) → InputsFit y inputs → PartsFit y (states_of (composite_cycle y inputs states))
  later_fits states fits inputs fit i is =
      (numbers (part y i) (fine.parts i is) (sized i is)).1 (part_inputs y states inputs i) (states i) (part_fits y fine (laws_of i is) states fits inputs fit i is) (fits i is)

  streams_fit : (states : CompositeState) → PartsFit y states → (stream : List (List Tagged)) → AllByRecursion (InputsFit y) stream
      → (i : ℕ) → IsPart y i → AllByRecursion (InputsFitPart (world y i)) (stream_of_part y states stream i)
  streams_fit states fits [] fit i is = tt
  streams_fit states fits (inputs ∷ rest) fit i is = (
    part_fits y fine (laws_of i is) states fits inputs fit.0 i is,
    streams_fit (states_of (composite_cycle y inputs states)) (later_fits states fits inputs fit.0) rest fit.1 i is,
  )

pub streams_of_parts_fit : NumbersFit → StreamsOfPartsFit
streams_of_parts_fit numbers y fine sized states fits stream fit i is = streams_fit numbers y fine sized states fits stream fit i is

pub composites_fit : NumbersFit → CompositesFit
composites_fit numbers y fine sized = (
  (λ i is. (numbers (part y i) (fine.parts i is) (sized i is)).0),
  λ inputs states fit fits. later_fits numbers y fine sized states fits inputs fit,
)
