-- On what stands in Scope: what several crates cite.
use Rattle.sap_lemmas.proofs.Common.{List, None, Some, [], inl, inr, refl, ◌++◌, ◌∷◌, ◌≡◌, bytes_eq, cases_Bool}
use Rattle.sap_maps.specs.Maps.{Name}
use Rattle.sap_maps.specs.Scope.{find}

pub found_first : {X : Type 0} (es fs : List (Name × X)) (n : Name) (x : X) → find es n ≡ Some x → find (es ++ fs) n ≡ Some x
found_first [] fs n x h = absurd (cc)
found_first (e ∷ es) fs n x h =
    elim (cases_Bool (bytes_eq e.0 n)) [ inl t ↦ rw t (rw t at h) | inr f ↦ rw f (found_first es fs n x (rw f at h)) ]

pub found_second : {X : Type 0} (es fs : List (Name × X)) (n : Name) → find es n ≡ None → find (es ++ fs) n ≡ find fs n
found_second [] fs n h = refl
found_second (e ∷ es) fs n h =
    elim (cases_Bool (bytes_eq e.0 n)) [ inl t ↦ absurd (let g : Some e.1 ≡ None = rw t at h in cc) | inr f ↦ rw f (found_second es fs n (rw f at h)) ]
