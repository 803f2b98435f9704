-- Texts that are no `v_x`.
use Rattle.sap_lemmas.proofs.Common.{◌≡◌, ◌≢◌, ◌==◌, ◌&&◌, ℕ, ◌∷◌, None, ap, ◌∙◌, refl, inl, inr, cases_Bool, and_left, equal_of_test}
use Rattle.sap_maps.specs.Maps.{Name}
use Rattle.sap_net.specs.PortNames.{value_of}

pub not_behind_v : (name : Name) → ((rest : Name) → name ≢ 118 ∷ rest) → value_of name ≡ None
not_behind_v (a ∷ (b ∷ (c ∷ x))) h =
    elim (cases_Bool (a == 118 && b == 95)) [
      | inl t ↦ absurd (h (b ∷ (c ∷ x)) (ap (λ (l : ℕ). l ∷ (b ∷ (c ∷ x))) (equal_of_test a 118 (and_left (a == 118) (b == 95) t))))
      | inr f ↦ rw f refl
    ]
not_behind_v _ h = refl

not_behind : (rest : Name) → ((x : Name) → rest ≢ 95 ∷ x) → value_of (118 ∷ rest) ≡ None
not_behind (b ∷ (c ∷ x)) h =
    elim (cases_Bool (b == 95)) [
      | inl t ↦ absurd (h (c ∷ x) (ap (λ (l : ℕ). l ∷ (c ∷ x)) (equal_of_test b 95 t)))
      | inr f ↦ rw f refl
    ]
not_behind _ h = refl

pub not_behind_line : (name rest : Name) → name ≡ 118 ∷ rest → ((x : Name) → rest ≢ 95 ∷ x) → value_of name ≡ None
not_behind_line name rest e h = ap value_of e ∙ not_behind rest h
