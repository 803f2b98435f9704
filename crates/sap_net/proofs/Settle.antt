-- The wires' values, put one after another.
use Rattle.std.proofs.Common.{◌≡◌, ℕ, List, [], ◌∷◌, Some, ◌∙◌, refl}
use Rattle.sap_maps.specs.Prelude.{Name, Valuation, set_value, Scope, find, Agree}
use Rattle.sap_maps.proofs.Scopes.{found_behind, set_value_agrees}
use Rattle.sap_net.specs.declared.parts.Wire.{Wire}
use Rattle.sap_net.specs.Values.{right_value}
use Rattle.sap_net.specs.Rules.{Shapes, AreWires}

abbrev pub settle : (Name → ℕ) → Valuation → List Wire → Valuation
settle widths v [] = v
settle widths v (w ∷ ws) = settle widths (set_value v w.name (right_value widths v w.right)) ws

-- equal cells of all memories
abbrev pub CellsAgree : Shapes → Valuation → Valuation → Type 0
CellsAgree ms v w = (m : Name) (s : ℕ × ℕ) → find ms m ≡ Some s → (i : ℕ) → v.cell m i ≡ w.cell m i

-- what could be read before keeps its number
pub settle_agrees : (widths : Name → ℕ) (ms : Shapes) (ws : List Wire) (sc : Scope) (v : Valuation) → AreWires ms sc ws → Agree sc v (settle widths v ws)
settle_agrees widths ms [] sc v rules n u h = refl
settle_agrees widths ms (x ∷ ws) sc v rules n u h =
    let r = right_value widths v x.right in
    set_value_agrees sc v x.name r rules.1 n u h
    ∙ settle_agrees widths ms ws ((x.name, x.width) ∷ sc) (set_value v x.name r) rules.4 n u (found_behind sc x.name x.width rules.1 n u h)

pub settle_cell : (widths : Name → ℕ) (ws : List Wire) (v : Valuation) → v.cell ≡ (settle widths v ws).cell
settle_cell widths [] v = refl
settle_cell widths (x ∷ ws) v = settle_cell widths ws (set_value v x.name (right_value widths v x.right))
