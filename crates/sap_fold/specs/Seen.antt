-- Operands that helping wires define.
use Rattle.std.specs.Prelude.{◌≡◌, List}
use Rattle.sap_net.specs.declared.parts.Operand.{Operand}
use Rattle.sap_net.specs.declared.parts.Operand.TheVariants.{Named}
use Rattle.sap_net.specs.declared.parts.Right.{Right}
use Rattle.sap_net.specs.declared.parts.Wire.{Wire}
use Rattle.sap_fold.specs.Wires.{HasWire}

-- The operand names one of the wires, whose right side is r.
pub record Defines (ws : List Wire) (o : Operand) (r : Right) : Type 0 where
  pub wire : Wire
  pub has : HasWire ws wire.name wire
  pub operand : o ≡ Named wire.name
  pub right : wire.right ≡ r
