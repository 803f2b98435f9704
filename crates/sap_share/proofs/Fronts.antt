-- Marks for the first bytes of names.
use Rattle.sap_lemmas.proofs.Common.{◌≡◌, ℕ, zero, suc, List, [], ◌∷◌, Bool, true, false, sym, ◌∙◌, subst, refl, inl, inr, slice_set, bytes_eq, cases_Bool, equal_of_bytes_eq, ◌<◌, length, arith}
use Rattle.sap_maps.specs.Maps.{Name}
use Rattle.sap_share.specs.Fronts.{AreMarked, front, is_marked}
use Rattle.sap_share.specs.Sets.{AreSame, holds}

-- a mark stays as another is set

mark_kept : (marks : List Bool) (j k : ℕ) → is_marked marks k ≡ true → is_marked (slice_set marks j true) k ≡ true
mark_kept [] j k h = absurd (cc)
mark_kept (b ∷ bs) zero zero h = refl
mark_kept (b ∷ bs) zero (suc k) h = h
mark_kept (b ∷ bs) (suc j) zero h = h
mark_kept (b ∷ bs) (suc j) (suc k) h = mark_kept bs j k h

pub mark_set : (marks : List Bool) (k : ℕ) → k < length marks → is_marked (slice_set marks k true) k ≡ true
mark_set [] k l = absurd (omega (arith, l))
mark_set (b ∷ bs) zero l = refl
mark_set (b ∷ bs) (suc k) l = mark_set bs k (omega (arith, l))

pub one_more : (marks after : List Bool) (x : Name) (old new : List Name) → after ≡ slice_set marks (front x) true → is_marked after (front x) ≡ true
    → AreSame new (x ∷ old) → AreMarked marks old → AreMarked after new
one_more marks after x old new e m s h n t =
    elim (cases_Bool (bytes_eq n x)) [
      | inl same ↦
          let k : n ≡ x = equal_of_bytes_eq n x same in
          subst (λ (y : Name). is_marked after (front y) ≡ true) (sym k) m
      | inr f ↦
          let there : holds (x ∷ old) n ≡ true = sym (s n) ∙ t in
          subst (λ (bs : List Bool). is_marked bs (front n) ≡ true) (sym e) (mark_kept marks (front x) (front n) (h n (rw f at there)))
    ]

-- what has no mark isn't held
pub unmarked : (marks : List Bool) (names : List Name) (n : Name) → AreMarked marks names → is_marked marks (front n) ≡ false → holds names n ≡ false
unmarked marks names n h f =
    elim (cases_Bool (holds names n)) [ inl t ↦ absurd (let g = h n t in cc) | inr g ↦ g ]
