-- A map of places, name by name.
use Rattle.sap_lemmas.proofs.Common.{◌≡◌, ◌<◌, ℕ, zero, suc, arith, List, [], ◌∷◌, ◌++◌, Option, Some, None, length, sym, ap, ◌∙◌, subst, refl, inl, inr, true≢false, slice_get, Contains, IsSome, bytes_eq, lookup, Global, bytes_eq-Decides, cases_Bool}
use Rattle.std.specs.Prelude.{Vec}
use Rattle.std.proofs.lemmas.List.Elements.{Contains-push_cases}
use Rattle.sap_maps.specs.Maps.{Name}
use Rattle.sap_net.specs.NameMaps.{at_name, NameMap, Puts}
use Rattle.sap_cycle.specs.Places.{Finds}

-- what a look-up of a name's bytes gave is found of the name
pub looked_up : (m : NameMap ℕ) {x y : Name} {o q : Option ℕ} → y ≡ x → o ≡ at_name m y → o ≡ q → at_name m x ≡ q
looked_up m same gave is = ap (at_name m) (sym same) ∙ sym gave ∙ is

get_push : (xs : List Name) (y : Name) (k : ℕ) (q : Name) → slice_get xs k ≡ Some q → slice_get (xs ++ y ∷ []) k ≡ Some q
get_push [] y k q h = absurd (cc)
get_push (x ∷ xs) y zero q h = h
get_push (x ∷ xs) y (suc k) q h = get_push xs y k q h

get_end : (xs : List Name) (y : Name) → slice_get (xs ++ y ∷ []) (length xs) ≡ Some y
get_end [] y = refl
get_end (x ∷ xs) y = get_end xs y

-- one more name, at the end
pub finds_more : (m n : NameMap ℕ) (names : List Name) (y : Name) (place : ℕ) → place ≡ length names → Puts (at_name m) y place (at_name n)
    → Finds m names → Finds n (names ++ y ∷ [])
finds_more m n names y place at p f =
    let u = subst (λ (k : ℕ). Puts (at_name m) y k (at_name n)) at p in
    record {
      found = λ x k h.
          elim (cases_Bool (bytes_eq y x)) [
            | inl t ↦
                let e : y ≡ x = (bytes_eq-Decides y x).0 t in
                let g : Some (length names) ≡ Some k = rw t at (sym (u x) ∙ h) in
                let j : length names ≡ k = cc in
                subst (λ (i : ℕ). slice_get (names ++ y ∷ []) i ≡ Some x) j (get_end names y ∙ ap Some e)
            | inr d ↦ let g : at_name m x ≡ Some k = rw d at (sym (u x) ∙ h) in get_push names y k x (f.found x k g)
          ];
      all = λ x c.
          elim (cases_Bool (bytes_eq y x)) [
            | inl t ↦ let g : at_name n x ≡ Some (length names) = u x ∙ rw t refl in subst (IsSome {T = ℕ}) (sym g) refl
            | inr d ↦
                let here : Contains names x =
                elim (Contains-push_cases names y x c) [
                  | inl a ↦ a
                  | inr b ↦ absurd (true≢false (sym ((bytes_eq-Decides y x).1 b) ∙ d))
                ] in
                let g : at_name n x ≡ at_name m x = u x ∙ rw d refl in
                subst (IsSome {T = ℕ}) (sym g) (f.all x here)
          ];
    }

-- a map of nothing
pub finds_none : (m : NameMap ℕ) → m.entries ≡ [] → Finds m []
finds_none m e =
    record {
      found = λ x k h.
          let none : None ≡ Some k = sym (ap (lookup (λ (y : Vec ℕ Global). bytes_eq x y.items)) e) ∙ h in
          absurd (cc);
      all = λ x c. let lt : c.0 < 0 = c.1 in absurd (omega arith);
    }
