-- What the inputs of a part get, by their places and by their numbers.
use Rattle.std.proofs.Common.{◌≡◌, ℕ, zero, suc, ◌+◌, true, List, [], ◌∷◌, map, get_or, refl, sym, ◌∙◌, ap, ap₂, inl, inr, arith}
use Rattle.std.proofs.lemmas.Bool.{cases_Bool}
use Rattle.sap_meaning.specs.Prelude.{Entity, nothing, kind_is_input, Tagged, inputs_before, input_widths}
use Rattle.sap_link.specs.Systems.{world, inputs_from, endpoint}
use Rattle.sap_link.specs.Composites.{composite_cycle, states_of, received}
use Rattle.sap_link.specs.Laws.{PartsAreGiven, PartsRunAlone}

-- at an input's place among the inputs stands what its number gives
at_place : (f : ℕ → Tagged) (d : Tagged) (es : List Entity) (k x : ℕ) → kind_is_input (get_or es x nothing).kind ≡ true
    → get_or (map f (inputs_from k es)) (inputs_before es x) d ≡ f (k + x)
at_place f d [] k zero is = cc
at_place f d [] k (suc x) is = cc
at_place f d (e ∷ es) k zero is = let same : k ≡ k + 0 = omega arith in rw is (ap f same)
at_place f d (e ∷ es) k (suc x) is =
    let same : suc k + x ≡ k + suc x = omega arith in
    elim (cases_Bool (kind_is_input e.kind)) [
      | inl i ↦ rw i (at_place f d es (suc k) x is ∙ ap f same)
      | inr n ↦ rw n (at_place f d es (suc k) x is ∙ ap f same)
    ]

pub parts_are_given : PartsAreGiven
parts_are_given y states inputs i x is =
    let from_zero : 0 + x ≡ x = omega arith in
    at_place (λ n. received y states inputs (endpoint i n)) (record { number = 0; level = (world y i).order.bottom }) (world y i).entities 0
    x is ∙ ap (λ n. received y states inputs (endpoint i n)) from_zero

pub parts_alone : PartsRunAlone
parts_alone y states [] i = refl
parts_alone y states (inputs ∷ rest) i = ap (λ later. composite_cycle y inputs states i ∷ later) (parts_alone y (states_of (composite_cycle y inputs states)) rest i)

-- widths of inputs by their numbers are those in order
pub widths_in_order : (all es : List Entity) (k : ℕ) → ((j : ℕ) → get_or all (k + j) nothing ≡ get_or es j nothing)
    → input_widths es ≡ map (λ x. (get_or all x nothing).width) (inputs_from k es)
widths_in_order all [] k at = refl
widths_in_order all (e ∷ es) k at =
    elim (cases_Bool (kind_is_input e.kind)) [
      | inl i ↦ rw i (ap₂ (λ u us. u ∷ us) here (widths_in_order all es (suc k) later))
      | inr n ↦ rw n (widths_in_order all es (suc k) later)
    ]
  where
    here : e.width ≡ (get_or all k nothing).width
    here = let same : k + 0 ≡ k = omega arith in ap (λ (x : Entity). x.width) (sym (at 0)) ∙ ap (λ (n : ℕ). (get_or all n nothing).width) same

    later : (j : ℕ) → get_or all (suc k + j) nothing ≡ get_or es j nothing
    later j = let same : suc k + j ≡ k + suc j = omega arith in ap (λ (n : ℕ). get_or all n nothing) same ∙ at (suc j)
