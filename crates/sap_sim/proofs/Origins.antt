-- Where the numbers of inputs come from.
use Rattle.sap_lemmas.proofs.Common.{◌≡◌, ℕ, ◌<◌, List, [], ◌∷◌, Bool, true, Option, Some, None, length, map, ap, ◌∙◌, refl, arith, bytes_eq, inl, inr, filter, All, not, is_some, ◌==◌, AllByRecursion, cases_Bool, false≢true, length-map, and_right, bytes_eq_apart_back, bytes_eq_same, equal_of_bytes_eq}
use Rattle.std.proofs.lemmas.Bool.{not_from_false}
use Rattle.sap_lemmas.proofs.Bools.{not_and_false}
use Rattle.sap_lattice.specs.Levels.{Levels}
use Rattle.sap_maps.specs.Prelude.{Name, find}
use Rattle.sap_meaning.specs.Cycle.{Tagged as Given}
use Rattle.sap_net.specs.Prelude.{is_among, tag_of, value_name}
use Rattle.sap_net.specs.declared.parts.Input.{Input}
use Rattle.sap_net.specs.PortNames.{passes}
use Rattle.sap_sim.specs.declared.sources.Source.{Source}
use Rattle.sap_sim.specs.Prelude.{tag_width, input_widths, is_tag, with_field, place, field_names, value_for, number_for, source_of, source_place, number_from}
use Rattle.sap_sim.proofs.Maps.{same_back}
use Rattle.sap_sim.proofs.Registers.{behind_is, each}

abbrev pub names_of : List Input → List Name
names_of is = map (λ i. i.name) is

pub place_within : (ns : List Name) (n : Name) → is_among n ns ≡ true → place ns n < length ns
place_within [] n h = absurd (false≢true h)
place_within (m ∷ ns) n h =
    elim (cases_Bool (bytes_eq m n)) [
      | inl t ↦ rw t (omega arith)
      | inr f ↦ (let r : place ns n < length ns = place_within ns n (rw (bytes_eq_apart_back m n f) at h) in rw f (omega arith))
    ]

-- an input that passes is among those that do
among_filter_more : (p : Input → Bool) (i : Input) (is : List Input) (x : Name) → is_among x (names_of (filter p is)) ≡ true → is_among x (names_of (filter p (i ∷ is))) ≡ true
among_filter_more p i is x h =
    elim (cases_Bool (p i)) [
      | inl t ↦ rw t (elim (cases_Bool (bytes_eq x i.name)) [ inl u ↦ rw u refl | inr f ↦ rw f h ])
      | inr f ↦ rw f h
    ]

among_filter_rest : (p : Input → Bool) (i : Input) (is list : List Input) → AllByRecursion (λ j. p j ≡ true → is_among j.name (names_of (filter p is)) ≡ true) list
    → AllByRecursion (λ j. p j ≡ true → is_among j.name (names_of (filter p (i ∷ is))) ≡ true) list
among_filter_rest p i is [] h = tt
among_filter_rest p i is (j ∷ list) h = ((λ t. among_filter_more p i is j.name (h.0 t)), among_filter_rest p i is list h.1)

pub among_filter : (p : Input → Bool) (is : List Input) → AllByRecursion (λ j. p j ≡ true → is_among j.name (names_of (filter p is)) ≡ true) is
among_filter p [] = tt
among_filter p (i ∷ is) = ((λ t. rw (t, bytes_eq_same i.name) refl), among_filter_rest p i is is (among_filter p is))

-- a name whose inputs all pass is among those that do
pub among_passing : (p : Input → Bool) (is : List Input) (x : Name) → ((j : Input) → j.name ≡ x → p j ≡ true)
    → is_some (find (input_widths is) x) ≡ true → is_among x (names_of (filter p is)) ≡ true
among_passing p [] x f h = absurd (false≢true h)
among_passing p (i ∷ is) x f h =
    elim (cases_Bool (bytes_eq i.name x)) [
      | inl t ↦ (
          let e : i.name ≡ x = equal_of_bytes_eq i.name x t in
          let u : p i ≡ true = f i e in
          rw u (rw (same_back i.name x t) refl)
          )
      | inr g ↦ among_filter_more p i is x (among_passing p is x f (rw g at h))
    ]

-- the value of a tag is no tag
value_no_tag : (tag : ℕ) (is : List Input) (a : Name) (j : Input) → j.name ≡ 118 ∷ (95 ∷ a) → not (is_tag tag is j) ≡ true
value_no_tag tag is [] j e = rw e (not_and_false (j.width == tag))
value_no_tag tag is (c ∷ a) j e = rw e (not_and_false (j.width == tag))

passes_some : (test : Name → Bool) (o : Option Name) → passes test o ≡ true → (x : Name) × (o ≡ Some x) × (test x ≡ true)
passes_some test None h = absurd (false≢true h)
passes_some test (Some x) h = (x, refl, h)

tag_partner : (tag : ℕ) (is : List Input) (i : Input) → is_tag tag is i ≡ true → is_among (value_for i.name) (field_names tag is) ≡ true
tag_partner tag is i t =
    let w = passes_some (λ a. is_some (find (input_widths is) (value_name a))) (tag_of i.name) (and_right (i.width == tag) _ t) in
    let e : i.name ≡ 116 ∷ (95 ∷ w.0) = behind_is 116 i.name w.0 w.1 in
    rw e (among_passing (λ j. not (is_tag tag is j)) is (118 ∷ (95 ∷ w.0)) (value_no_tag tag is w.0) w.2)

source_in : (tag : ℕ) (is : List Input) (i : Input) → (not (is_tag tag is i) ≡ true → is_among i.name (field_names tag is) ≡ true)
    → source_place (source_of tag is i) < length (field_names tag is)
source_in tag is i f =
    elim (cases_Bool (is_tag tag is i)) as (λ v. source_place (source_of tag is i) < length (field_names tag is)) [
      | inl t ↦ rw t (place_within (field_names tag is) (value_for i.name) (tag_partner tag is i t))
      | inr g ↦ rw g (place_within (field_names tag is) i.name (f (not_from_false (is_tag tag is i) g)))
    ]

sources_in : (tag : ℕ) (is list : List Input) → AllByRecursion (λ j. not (is_tag tag is j) ≡ true → is_among j.name (field_names tag is) ≡ true) list
    → AllByRecursion (λ s. source_place s < length (field_names tag is)) (map (source_of tag is) list)
sources_in tag is [] h = tt
sources_in tag is (i ∷ list) h = (source_in tag is i h.0, sources_in tag is list h.1)

pub sources_within : (tag : ℕ) (is : List Input) (count : ℕ) → length (with_field tag is) ≡ count → (sources : List Source) → sources ≡ map (source_of tag is) is
    → All (λ s. source_place s < count) sources
sources_within tag is count e sources h =
    let l : length (field_names tag is) ≡ count = length-map (with_field tag is) (λ i. i.name) ∙ e in
    rw (h, ← l) (each (λ (s : Source). source_place s < length (field_names tag is)) (map (source_of tag is) is)
    (sources_in tag is is (among_filter (λ j. not (is_tag tag is j)) is)))

-- the number from an input's source is that for the input
pub number_is : (ls : Levels) (is : List Input) (xs : List Given) (i : Input) → number_from ls xs (source_of (tag_width ls) is i) ≡ number_for ls is xs i
number_is ls is xs i =
    elim (cases_Bool (is_tag (tag_width ls) is i)) as (λ v. number_from ls xs (source_of (tag_width ls) is i) ≡ number_for ls is xs i) [ inl t ↦ rw t refl | inr f ↦ rw f refl ]

pub numbers_are : (ls : Levels) (is : List Input) (xs : List Given) (list : List Input)
    → map (number_from ls xs) (map (source_of (tag_width ls) is) list) ≡ map (number_for ls is xs) list
numbers_are ls is xs [] = refl
numbers_are ls is xs (i ∷ list) =
    ap (λ (y : ℕ). y ∷ map (number_from ls xs) (map (source_of (tag_width ls) is) list)) (number_is ls is xs i)
    ∙ ap (λ (ys : List ℕ). number_for ls is xs i ∷ ys) (numbers_are ls is xs list)
