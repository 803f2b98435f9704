-- A map from right sides to the numbers in the names of their wires, as one more wire is added.
use Rattle.sap_lemmas.proofs.Common.{◌≡◌, ℕ, List, [], ◌∷◌, ◌++◌, Some, None, false, sym, ap, ◌∙◌, subst, refl, inl, inr, if◌then◌else◌, bytes_eq, option_map, cases_Bool, bytes_eq_same, equal_of_bytes_eq}
use Rattle.std.specs.HashMap as hash
use Rattle.sap_maps.specs.Scope.{find}
use Rattle.sap_maps.proofs.Scopes.{not_behind}
use Rattle.sap_net.specs.declared.parts.Wire.{Wire}
use Rattle.sap_share.specs.Keys.{key}
use Rattle.sap_share.specs.Names.{helper}
use Rattle.sap_share.specs.Rights.{rights, RightMap, at_key, NamesRights}

abbrev key_of : Wire → List ℕ
key_of w = key w.width w.right

pub last_here : (ws : List Wire) (w : Wire) → find (rights ws) (key_of w) ≡ None → find (rights (ws ++ w ∷ [])) (key_of w) ≡ Some w.name
last_here [] w h = rw (bytes_eq_same (key_of w)) refl
last_here (x ∷ ws) w h =
    elim (cases_Bool (bytes_eq (key_of x) (key_of w))) [
      | inl t ↦ absurd (let g : Some x.name ≡ None = rw t at h in cc)
      | inr f ↦ rw f (last_here ws w (not_behind (key_of x, x.name) (rights ws) (key_of w) h))
    ]

last_other : (ws : List Wire) (w : Wire) (k : List ℕ) → bytes_eq (key_of w) k ≡ false → find (rights (ws ++ w ∷ [])) k ≡ find (rights ws) k
last_other [] w k f = rw f refl
last_other (x ∷ ws) w k f = ap (λ o. if bytes_eq (key_of x) k then Some x.name else o) (last_other ws w k f)

pub one_more : (m m' : RightMap) (ws : List Wire) (w : Wire) (k : ℕ) → w.name ≡ helper k → find (rights ws) (key_of w) ≡ None
    → hash.Updates bytes_eq m m' (key_of w) (Some k) → NamesRights m ws → NamesRights m' (ws ++ w ∷ [])
one_more m m' ws w k named new h is b =
    elim (cases_Bool (bytes_eq (key_of w) b)) [
      | inl t ↦ subst (λ (x : List ℕ). at_key m' x ≡ find (rights (ws ++ w ∷ [])) x) (equal_of_bytes_eq (key_of w) b t)
          (ap (option_map helper) h.1 ∙ ap Some (sym named) ∙ sym (last_here ws w new))
      | inr f ↦ ap (option_map helper) (h.2 b f) ∙ is b ∙ sym (last_other ws w b f)
    ]
