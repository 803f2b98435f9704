-- The places of names on a list, and a map to them as one more name is added.
use Rattle.sap_lemmas.proofs.Common.{◌≡◌, ℕ, zero, List, [], ◌∷◌, ◌++◌, Option, Some, None, true, false, length, is_some, sym, ap, ◌∙◌, subst, refl, inl, inr, suc, if◌then◌else◌, bytes_eq, cases_Bool, option_map, bytes_eq_apart_back, bytes_eq_same, equal_of_bytes_eq}
use Rattle.sap_maps.specs.Maps.{Name}
use Rattle.sap_net.specs.Names.{is_among}
use Rattle.sap_net.specs.NameMaps.{at_name, Indexes, NameMap, Puts, place_in}

pub none_further : (o : Option ℕ) → option_map suc o ≡ None → o ≡ None
none_further None h = refl
none_further (Some j) h = absurd (cc)

further : (o p : Option ℕ) (k : ℕ) → ((j : ℕ) → o ≡ Some j → p ≡ Some j) → option_map suc o ≡ Some k → option_map suc p ≡ Some k
further None p k h e = absurd (cc)
further (Some j) p k h e = ap (option_map suc) (h j refl) ∙ e

pub place_push_old : (xs : List Name) (y n : Name) (k : ℕ) → place_in xs n ≡ Some k → place_in (xs ++ y ∷ []) n ≡ Some k
place_push_old [] y n k h = absurd (cc)
place_push_old (x ∷ xs) y n k h =
    elim (cases_Bool (bytes_eq x n)) [
      | inl t ↦ rw t (rw t at h)
      | inr f ↦ rw f (further (place_in xs n) (place_in (xs ++ y ∷ []) n) k (λ j g. place_push_old xs y n j g) (rw f at h))
    ]

pub place_push_here : (xs : List Name) (y : Name) → place_in xs y ≡ None → place_in (xs ++ y ∷ []) y ≡ Some (length xs)
place_push_here [] y h = rw (bytes_eq_same y) refl
place_push_here (x ∷ xs) y h =
    elim (cases_Bool (bytes_eq x y)) [
      | inl t ↦ absurd (let g : Some zero ≡ None = rw t at h in cc)
      | inr f ↦ rw f (ap (option_map suc) (place_push_here xs y (none_further (place_in xs y) (rw f at h))))
    ]

pub place_push_other : (xs : List Name) (y n : Name) → bytes_eq y n ≡ false → place_in (xs ++ y ∷ []) n ≡ place_in xs n
place_push_other [] y n f = rw f refl
place_push_other (x ∷ xs) y n f = ap (λ o. if bytes_eq x n then Some zero else option_map suc o) (place_push_other xs y n f)

pub added_new : (m m' : NameMap ℕ) (names : List Name) (y : Name) (k : ℕ) → at_name m y ≡ None → Puts (at_name m) y k (at_name m')
    → length names ≡ k → Indexes m names → Indexes m' (names ++ y ∷ [])
added_new m m' names y k new p l is n =
    elim (cases_Bool (bytes_eq y n)) [
      | inl t ↦ p n ∙ rw t (subst (λ (x : Name). Some k ≡ place_in (names ++ y ∷ []) x) (equal_of_bytes_eq y n t) (sym (place_push_here names y (sym (is y) ∙ new) ∙ ap Some l)))
      | inr f ↦ p n ∙ rw f (is n ∙ sym (place_push_other names y n f))
    ]

pub added_old : (m : NameMap ℕ) (names : List Name) (y : Name) (j : ℕ) → at_name m y ≡ Some j → Indexes m names → Indexes m (names ++ y ∷ [])
added_old m names y j old is n =
    elim (cases_Bool (bytes_eq y n)) [
      | inl t ↦ subst (λ (x : Name). at_name m x ≡ place_in (names ++ y ∷ []) x) (equal_of_bytes_eq y n t) (old ∙ sym (place_push_old names y y j (sym (is y) ∙ old)))
      | inr f ↦ is n ∙ sym (place_push_other names y n f)
    ]

pub is_there : (o : Option ℕ) → is_some o ≡ true → (j : ℕ) × (o ≡ Some j)
is_there None h = absurd (cc)
is_there (Some j) h = (j, refl)

some_further : (o : Option ℕ) → is_some (option_map suc o) ≡ is_some o
some_further None = refl
some_further (Some k) = refl

-- a name has a place exactly where it stands on the list
pub placed : (names : List Name) (n : Name) → is_some (place_in names n) ≡ is_among n names
placed [] n = refl
placed (x ∷ xs) n =
    elim (cases_Bool (bytes_eq x n)) [
      | inl t ↦ let u : bytes_eq n x ≡ true = subst (λ (y : Name). bytes_eq n y ≡ true) (sym (equal_of_bytes_eq x n t)) (bytes_eq_same n) in rw (t, u) refl
      | inr f ↦ let u = bytes_eq_apart_back x n f in rw (f, u) (some_further (place_in xs n) ∙ placed xs n)
    ]
