-- What inputs receive in two composites that agree.
use Rattle.std.proofs.Common.{◌≡◌, ℕ, zero, suc, false, List, [], ◌∷◌, map, get_or, Option, Some, None, refl, subst, inl, inr}
use Rattle.std.proofs.lemmas.Bool.{cases_Bool}
use Rattle.sap_lattice.specs.Order.{Order, Laws}
use Rattle.sap_meaning.specs.Prelude.{Tagged, Alike, Low, High, InputsAgree}
use Rattle.sap_link.specs.Systems.{Endpoint, endpoint, Wire, System, feeding, Connects}
use Rattle.sap_link.specs.Composites.{CompositeState, content_at, let_through, received, received_by, part_inputs}
use Rattle.sap_link.specs.Agree.{PartsAgree}
use Rattle.sap_link.specs.Laws.{FineSystem}
use Rattle.sap_link.proofs.Feeding.{found_fits}
use Rattle.sap_link.proofs.Itself.{same_alike}

abbrev AreAlike : Order → ℕ → Tagged → Tagged → Type 0
AreAlike o l a b = Alike o l (a.number ≡ b.number) a.level b.level

at_place_alike : (o : Order) (l : ℕ) (a b : List Tagged) (d : Tagged) → InputsAgree o l a b → (n : ℕ) → AreAlike o l (get_or a n d) (get_or b n d)
at_place_alike o l [] [] d same zero = same_alike o l _ refl d.level
at_place_alike o l [] [] d same (suc n) = same_alike o l _ refl d.level
at_place_alike o l [] (b ∷ bs) d same n = absurd same
at_place_alike o l (a ∷ as') [] d same n = absurd same
at_place_alike o l (a ∷ as') (b ∷ bs) d same zero = same.0
at_place_alike o l (a ∷ as') (b ∷ bs) d same (suc n) = at_place_alike o l as' bs d same.1 n

-- a level that isn't at or below l is at or below none that is
not_below : (o : Order) → Laws o → (l t u : ℕ) → High o l u → Low o l t → o.le u t ≡ false
not_below o laws l t u high low =
    elim (cases_Bool (o.le u t)) [
      | inl below ↦ let e = laws.trans u t l below low in cc
      | inr above ↦ above
    ]

-- What comes out of a wire is alike where what goes in is.
through_alike : (o : Order) → Laws o → (l : ℕ) (level : Option ℕ) (a b : Tagged) → AreAlike o l a b → AreAlike o l (let_through o level a) (let_through o level b)
through_alike o laws l None a b same = same
through_alike o laws l (Some t) a b same =
    elim (cases_Bool (o.le t l)) [
      | inr high ↦ inr (high, high)
      | inl low ↦
          elim same [
            | inl e ↦ inl (rw (e.0, e.1) refl, refl, low)
            | inr both ↦ inl (rw (not_below o laws l t a.level both.0 low, not_below o laws l t b.level both.1 low) refl, refl, low)
          ]
    ]

module _ (y : System) (fine : FineSystem y) (laws : Laws y.order) (l : ℕ) (s t : CompositeState) (same : PartsAgree y l s t)
    (a b : List Tagged) (inputs : InputsAgree y.order l a b) where
  content_alike : (w : Wire) → Connects y w → AreAlike y.order l (content_at y s w.from) (content_at y t w.from)
  content_alike w good =
      subst (λ (o : Order). AreAlike o l (content_at y s w.from) (content_at y t w.from)) (fine.order w.from.part good.from_part)
      ((same w.from.part good.from_part).registers w.from.entity good.register)

  by_alike : (e : Endpoint) (feeds : Option Wire) → feeding y.wires e ≡ feeds → AreAlike y.order l (received_by y s a e feeds) (received_by y t b e feeds)
  by_alike e None is = at_place_alike y.order l a b (record { number = 0; level = y.order.bottom }) inputs _
  by_alike e (Some w) is = through_alike y.order laws l w.level (content_at y s w.from) (content_at y t w.from) (content_alike w (found_fits y y.wires e fine.wires.each w is))

  each_alike : (i : ℕ) (xs : List ℕ) → InputsAgree y.order l (map (λ x. received y s a (endpoint i x)) xs) (map (λ x. received y t b (endpoint i x)) xs)
  each_alike i [] = tt
  each_alike i (x ∷ xs) = (by_alike (endpoint i x) (feeding y.wires (endpoint i x)) refl, each_alike i xs)

  pub part_inputs_agree : (i : ℕ) → InputsAgree y.order l (part_inputs y s a i) (part_inputs y t b i)
  part_inputs_agree i = each_alike i _
