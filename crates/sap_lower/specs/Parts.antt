-- The wires of the parts of a concatenation.
use Rattle.std.specs.Prelude.{List, [], ◌∷◌}
use Rattle.sap_maps.specs.Maps.{Name}
use Rattle.sap_maps.specs.Term.{Term}
use Rattle.sap_net.specs.Rules.{Shapes}
use Rattle.sap_net.specs.declared.parts.Wire.{Wire}
use Rattle.sap_lower.specs.declared.parts.Part.{Part}
use Rattle.sap_lower.specs.Lowering.{nothing, Low, low, low_join}

-- Wires, and the parts that stand for terms.
pub record Lows : Type 0 where
  pub wires : List Wire
  pub parts : List Part

-- Each part, one after another.
abbrev pub low_all : Shapes → List (Name × Part) → List (Term Name) → List Wire → Lows
low_all ms es [] ws = record { wires = ws; parts = [] }
low_all ms es (t ∷ ts) ws =
    let x = low ms es t ws in
    let xs = low_all ms es ts x.wires in
    record { wires = xs.wires; parts = x.part ∷ xs.parts }

-- The parts joined, from the last one on.
abbrev pub glued_behind : List Wire → Part → List Part → Low
glued_behind ws p [] = record { wires = ws; part = p }
glued_behind ws p (q ∷ qs) = let r = glued_behind ws q qs in low_join p r.part r.wires

-- The wires of parts, one in front of the other.
abbrev pub glued : List Wire → List Part → Low
glued ws [] = record { wires = ws; part = nothing }
glued ws (p ∷ ps) = glued_behind ws p ps
