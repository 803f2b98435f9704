-- Right sides of equal value over the same wires.
use Rattle.std.specs.Prelude.{◌≡◌, ℕ, List}
use Rattle.sap_maps.specs.Maps.{Name, Valuation}
use Rattle.sap_maps.specs.Scope.{Scope}
use Rattle.sap_net.specs.Rules.{Shapes, IsRight, AreWires, readable_after}
use Rattle.sap_net.specs.Values.{right_value, Holds, WidthsAre, ValuesBelow}
use Rattle.sap_net.specs.declared.parts.Right.{Right}
use Rattle.sap_net.specs.declared.parts.Wire.{Wire}

-- Wires that fit, and a valuation within its widths in which their equations hold.
pub record Over (memories : Shapes) (sc : Scope) (ws : List Wire) (widths : Name → ℕ) (v : Valuation) : Type 0 where
  pub wires : AreWires memories sc ws
  pub wide : WidthsAre (readable_after sc ws) widths
  pub below : ValuesBelow (readable_after sc ws) v
  pub holds : Holds widths v ws

-- Where a is a right side of width u behind the wires, so is b, and both have the same value.
pub record Equals (ws : List Wire) (u : ℕ) (a b : Right) : Type 0 where
  pub fits : (memories : Shapes) (sc : Scope) → AreWires memories sc ws
      → IsRight memories (readable_after sc ws) u a → IsRight memories (readable_after sc ws) u b
  pub same : (memories : Shapes) (sc : Scope) (widths : Name → ℕ) (v : Valuation) → Over memories sc ws widths v
      → IsRight memories (readable_after sc ws) u a → right_value widths v a ≡ right_value widths v b
