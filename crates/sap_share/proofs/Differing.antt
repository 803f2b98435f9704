-- Wires whose bytes differ, differ.
use Rattle.sap_lemmas.proofs.Common.{◌≡◌, ℕ, List, [], ◌∷◌, ◌++◌, Some, None, true, false, sym, ap₂, subst, inl, inr, bytes_eq, cases_Bool, bytes_eq_same}
use Rattle.sap_maps.specs.Scope.{find}
use Rattle.sap_maps.proofs.Scopes.{not_behind}
use Rattle.sap_net.specs.declared.parts.Right.{Right}
use Rattle.sap_net.specs.declared.parts.Wire.{Wire}
use Rattle.sap_share.specs.Differing.{DiffersFrom, AllDiffer}
use Rattle.sap_share.specs.Keys.{key}
use Rattle.sap_share.specs.Rights.{rights}

differ_more : (w x : Wire) (ws : List Wire) → bytes_eq (key w.width w.right) (key x.width x.right) ≡ false → DiffersFrom w ws → DiffersFrom w (ws ++ x ∷ [])
differ_more w x [] f d = (
  λ e r.
      let s : key w.width w.right ≡ key x.width x.right = ap₂ (λ (n : ℕ) (k : Right). key n k) (sym e) (sym r) in
      let t : bytes_eq (key w.width w.right) (key x.width x.right) ≡ true =
      subst (λ (k : List ℕ). bytes_eq (key w.width w.right) k ≡ true) s (bytes_eq_same (key w.width w.right)) in
      absurd (cc),
  tt,
)
differ_more w x (y ∷ ws) f d = (d.0, differ_more w x ws f d.1)

apart_first : (w : Wire) (ws : List Wire) (k : List ℕ) → find (rights (w ∷ ws)) k ≡ None → bytes_eq (key w.width w.right) k ≡ false
apart_first w ws k h =
    elim (cases_Bool (bytes_eq (key w.width w.right) k)) [ inl t ↦ absurd (let g : Some w.name ≡ None = rw t at h in cc) | inr f ↦ f ]

-- one more wire whose right side is new
pub all_more : (ws : List Wire) (x : Wire) → find (rights ws) (key x.width x.right) ≡ None → AllDiffer ws → AllDiffer (ws ++ x ∷ [])
all_more [] x h a = (tt, tt)
all_more (w ∷ ws) x h a =
    let k = key x.width x.right in
    (differ_more w x ws (apart_first w ws k h) a.0, all_more ws x (not_behind (key w.width w.right, w.name) (rights ws) k h) a.1)
