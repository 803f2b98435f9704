-- The equations of wires, and what they say of a wire that is found by its right side.
use Rattle.sap_lemmas.proofs.Common.{◌≡◌, ℕ, List, [], ◌∷◌, Some, inl, inr, bytes_eq, cases_Bool}
use Rattle.sap_maps.specs.Prelude.{Name, Valuation, find}
use Rattle.sap_net.specs.Values.{operand_width, right_value}
use Rattle.sap_net.specs.declared.parts.Right.{Right}
use Rattle.sap_net.specs.declared.parts.Right.TheVariants.{Choose}
use Rattle.sap_net.specs.declared.parts.Wire.{Wire}
use Rattle.sap_share.specs.Keys.{key}
use Rattle.sap_share.specs.Rights.{rights}
use Rattle.sap_share.proofs.Found.{known}

-- both parts of a choice have this width
abbrev pub PartsWide : (Name → ℕ) → (width : ℕ) → Right → Type 0
PartsWide widths u (Choose c a b) = (operand_width widths a ≡ u) × (operand_width widths b ≡ u)
PartsWide widths u _ = Unit {0}

abbrev pub Gives : (Name → ℕ) → Valuation → List Wire → Type 0
Gives widths v [] = Unit {0}
Gives widths v (w ∷ ws) = (v.value w.name ≡ right_value widths v w.right) × (widths w.name ≡ w.width) × PartsWide widths w.width w.right × Gives widths v ws

pub known_gives : (widths : Name → ℕ) (v : Valuation) (ws : List Wire) (u : ℕ) (r : Right) (n : Name) → find (rights ws) (key u r) ≡ Some n
    → Gives widths v ws → (v.value n ≡ right_value widths v r) × (widths n ≡ u)
known_gives widths v [] u r n e g = absurd (cc)
known_gives widths v (w ∷ ws) u r n e g =
    elim (cases_Bool (bytes_eq (key w.width w.right) (key u r))) [
      | inl t ↦ known (λ x s m. (v.value m ≡ right_value widths v s) × (widths m ≡ x)) u r w n t (rw t at e) (g.0, g.1)
      | inr f ↦ known_gives widths v ws u r n (rw f at e) g.3
    ]
