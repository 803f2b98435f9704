-- A wire that is found by its right side has that right side.
use Rattle.sap_lemmas.proofs.Common.{◌≡◌, ℕ, List, [], ◌∷◌, Some, true, subst, inl, inr, bytes_eq, cases_Bool, equal_of_bytes_eq}
use Rattle.sap_maps.specs.Prelude.{Name, Scope, find}
use Rattle.sap_maps.proofs.Scopes.{found_here}
use Rattle.sap_net.specs.Rules.{Shapes, AreWires, readable_after}
use Rattle.sap_net.specs.declared.parts.Right.{Right}
use Rattle.sap_net.specs.declared.parts.Wire.{Wire}
use Rattle.sap_net.proofs.RulesLemmas.{readable_kept}
use Rattle.sap_share.specs.Keys.{key}
use Rattle.sap_share.specs.Rights.{rights}
use Rattle.sap_share.proofs.Decoding.{key_is}

-- what is known of the first wire of a right side, where it is known of each
pub known : (Known : ℕ → Right → Name → Type 0) (u : ℕ) (r : Right) (w : Wire) (n : Name) → bytes_eq (key w.width w.right) (key u r) ≡ true → Some w.name ≡ Some n
    → Known w.width w.right w.name → Known u r n
known Known u r w n t e h =
    let k = key_is w.width u w.right r (equal_of_bytes_eq (key w.width w.right) (key u r) t) in
    let m : w.name ≡ n = cc in
    subst (λ (x : Name). Known u r x) m (subst (λ (x : Right). Known u x w.name) k.1 (subst (λ (x : ℕ). Known x w.right w.name) k.0 h))

-- in wires that fit, it has the width that it is looked up with
pub known_readable : (ms : Shapes) (ws : List Wire) (sc : Scope) (u : ℕ) (r : Right) (n : Name) → find (rights ws) (key u r) ≡ Some n
    → AreWires ms sc ws → find (readable_after sc ws) n ≡ Some u
known_readable ms [] sc u r n e a = absurd (cc)
known_readable ms (w ∷ ws) sc u r n e a =
    let after = readable_after ((w.name, w.width) ∷ sc) ws in
    elim (cases_Bool (bytes_eq (key w.width w.right) (key u r))) [
      | inl t ↦
          known (λ x s m. find after m ≡ Some x) u r w n t (rw t at e)
          (readable_kept ms ws ((w.name, w.width) ∷ sc) a.4 w.name w.width (found_here w.name w.width sc))
      | inr f ↦ known_readable ms ws ((w.name, w.width) ∷ sc) u r n (rw f at e) a.4
    ]
