-- The places of names on a list, and a look-up of them as one more name is added.
use Rattle.sap_lemmas.proofs.Common.{◌≡◌, ℕ, List, [], ◌∷◌, ◌++◌, Option, Some, None, length, sym, ap, ◌∙◌, subst, refl, inl, inr, if◌then◌else◌, bytes_eq, cases_Bool, equal_of_bytes_eq}
use Rattle.std.specs.HashMap as hash
use Rattle.sap_maps.specs.Maps.{Name}
use Rattle.sap_net.specs.NameMaps.{AtPlaces, Puts, place_in}
use Rattle.sap_net.proofs.Places.{place_push_here, place_push_old, place_push_other}
use Rattle.sap_share.specs.NameTables.{NameTable, of_name}

-- what the insertion of a name leaves at all names
pub puts : {X : Type 0} (m n : NameTable X) (key x : Name) (o : X) → key ≡ x → hash.Updates bytes_eq m n key (Some o) → Puts (of_name m) x o (of_name n)
puts m n key x o e h y = subst (λ (k : Name). of_name n y ≡ (if bytes_eq k y then Some o else of_name m y)) e (h.0 y)

-- a name that has no place, at the place behind all
pub added_new : (at at' : Name → Option ℕ) (names : List Name) (y : Name) (k : ℕ) → at y ≡ None → Puts at y k at' → length names ≡ k → AtPlaces at names
    → AtPlaces at' (names ++ y ∷ [])
added_new at at' names y k new p l is n =
    elim (cases_Bool (bytes_eq y n)) [
      | inl t ↦ p n ∙ rw t (subst (λ (x : Name). Some k ≡ place_in (names ++ y ∷ []) x) (equal_of_bytes_eq y n t) (sym (place_push_here names y (sym (is y) ∙ new) ∙ ap Some l)))
      | inr f ↦ p n ∙ rw f (is n ∙ sym (place_push_other names y n f))
    ]

-- one that has a place keeps it
pub added_old : (at : Name → Option ℕ) (names : List Name) (y : Name) (j : ℕ) → at y ≡ Some j → AtPlaces at names → AtPlaces at (names ++ y ∷ [])
added_old at names y j old is n =
    elim (cases_Bool (bytes_eq y n)) [
      | inl t ↦ subst (λ (x : Name). at x ≡ place_in (names ++ y ∷ []) x) (equal_of_bytes_eq y n t) (old ∙ sym (place_push_old names y y j (sym (is y) ∙ old)))
      | inr f ↦ is n ∙ sym (place_push_other names y n f)
    ]

-- so does one that has another for a while
pub put_back : (at mid at' : Name → Option ℕ) (names : List Name) (y : Name) (k j : ℕ) → at y ≡ Some j → Puts at y k mid → Puts mid y j at' → AtPlaces at names
    → AtPlaces at' (names ++ y ∷ [])
put_back at mid at' names y k j old p q is n =
    let same : at' n ≡ at n = elim (cases_Bool (bytes_eq y n)) [
      | inl t ↦ q n ∙ rw t (sym old ∙ ap at (equal_of_bytes_eq y n t))
      | inr f ↦ q n ∙ rw f (p n ∙ rw f refl)
    ] in
    same ∙ added_old at names y j old is n
