-- The place of a name, and the length where it has none.
use Rattle.sap_lemmas.proofs.Common.{◌≡◌, ℕ, suc, List, [], ◌∷◌, Option, Some, None, true, false, arith, length, sym, ap, ◌∙◌, refl, bytes_eq, inl, inr, unwrap_or, option_map, cases_Bool, bytes_eq_same, equal_of_bytes_eq}
use Rattle.sap_maps.specs.Maps.{Name}
use Rattle.sap_net.specs.NameMaps.{place_in}
use Rattle.sap_sim.specs.Numbers.{place}

pub same_back : (m n : Name) → bytes_eq m n ≡ true → bytes_eq n m ≡ true
same_back m n h = ap (λ (x : Name). bytes_eq x m) (sym (equal_of_bytes_eq m n h)) ∙ bytes_eq_same m

further : (o : Option ℕ) (k : ℕ) → unwrap_or (option_map suc o) (suc k) ≡ suc (unwrap_or o k)
further None k = refl
further (Some j) k = refl

-- the place of a name that isn't the first of a list
pub place_behind : (m : Name) (ns : List Name) (n : Name) → bytes_eq m n ≡ false → place (m ∷ ns) n ≡ suc (place ns n)
place_behind m ns n f = rw f (omega arith)

pub place_found : (ns : List Name) (n : Name) → unwrap_or (place_in ns n) (length ns) ≡ place ns n
place_found [] n = refl
place_found (m ∷ ns) n =
    elim (cases_Bool (bytes_eq m n)) [
      | inl t ↦ rw t refl
      | inr f ↦ rw f (further (place_in ns n) (length ns) ∙ ap suc (place_found ns n)) ∙ sym (place_behind m ns n f)
    ]
