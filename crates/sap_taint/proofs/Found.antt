-- What all of a list have, what is found there under a name has.
use Rattle.sap_lemmas.proofs.Common.{◌≡◌, List, [], ◌∷◌, map, Some, subst, ⊎_elim, bytes_eq, AllByRecursion, cases_Bool, equal_of_bytes_eq}
use Rattle.sap_maps.specs.Prelude.{Name, find}

pub at_named : {X Y : Type 0} (P : Name → Y → Type 0) (name : X → Name) (of : X → Y) (xs : List X) → AllByRecursion (λ x. P (name x) (of x)) xs
    → (n : Name) (y : Y) → find (map (λ x. (name x, of x)) xs) n ≡ Some y → P n y
at_named {X} {Y} P name of [] a n y h = absurd (cc)
at_named {X} {Y} P name of (x ∷ xs) a n y h =
    ⊎_elim
    (λ t. let e : Some (of x) ≡ Some y = rw t at h in let g : of x ≡ y = cc in
    subst (λ (m : Name). P m y) (equal_of_bytes_eq (name x) n t) (subst (P (name x)) g a.0))
    (λ q. at_named P name of xs a.1 n y (rw q at h))
    (cases_Bool (bytes_eq (name x) n))
