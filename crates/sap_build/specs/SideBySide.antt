-- An example: two netlists that sum, side by side, where the register of the left one feeds the right one.
use Rattle.std.specs.Prelude.{ℕ, List, [], ◌∷◌, ◌++◌, codes, map}
use Rattle.sap_maps.specs.Maps.{Name}
use Rattle.sap_net.specs.declared.parts.Operand.TheVariants.{Named}
use Rattle.sap_net.specs.declared.parts.Right.TheVariants.{Copy}
use Rattle.sap_net.specs.declared.parts.PortKind.{PortKind}
use Rattle.sap_net.specs.declared.parts.PortKind.TheVariants as kind
use Rattle.sap_net.specs.declared.parts.Port.{Port}
use Rattle.sap_net.specs.declared.parts.Wire.{Wire}
use Rattle.sap_net.specs.Net.{Net}
use Rattle.sap_net.specs.IsNetlist.{IsNetlist}
use Rattle.sap_net.specs.Summing.{summing}
use Rattle.sap_build.specs.Copies.{copy_net}
use Rattle.sap_build.specs.Parts.{IsPart}

-- The left copy's name for x.
abbrev pub left : Name → Name
left x = codes "left_" ++ x

-- The right copy's name for x.
abbrev pub right : Name → Name
right x = codes "right_" ++ x

-- The left copy of the summing net.
abbrev pub left_sum : Net
left_sum = copy_net (codes "top") left summing

-- The right copy of the summing net.
abbrev pub right_sum : Net
right_sum = copy_net (codes "top") right summing

-- The right one's input is a wire: the register of the left one.
abbrev pub feed : Wire
feed = record { name = codes "right_a"; width = 8; right = Copy (Named (codes "left_d")) }

-- A port of a name and a kind.
abbrev pub shown : (List ℕ) → PortKind → Port
shown name kind = record { name = name; kind = kind }

-- The ports of the two copies side by side; the right input is fed and so a wire.
abbrev pub both_ports : List Port
both_ports =
    shown (codes "left_a") kind.Input
    ∷ shown (codes "left_b") kind.Wire
    ∷ shown (codes "left_c") kind.Wire
    ∷ shown (codes "right_a") kind.Wire
    ∷ shown (codes "right_b") kind.Wire
    ∷ shown (codes "right_c") kind.Wire
    ∷ shown (codes "left_d") kind.Register
    ∷ shown (codes "right_d") kind.Register
    ∷ []

-- The two copies side by side, the left sum feeding the right input.
abbrev pub both : Net
both =
    record {
      module_name = codes "top";
      names = map (λ p. p.name) both_ports ++ codes "left_e" ∷ codes "right_e" ∷ [];
      ports = both_ports;
      inputs = left_sum.inputs;
      wires = left_sum.wires ++ feed ∷ right_sum.wires;
      registers = left_sum.registers ++ right_sum.registers;
      memories = left_sum.memories ++ right_sum.memories;
    }

-- Each is a part of the whole.
abbrev pub SideBySide : Type 0
SideBySide = IsNetlist both × IsPart left summing both × IsPart right summing both
