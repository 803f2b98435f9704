-- Wires that differ in their width or their right side.
use Rattle.std.specs.Prelude.{◌≡◌, List, [], ◌∷◌}
use Rattle.std.specs.List.{AllByRecursion}
use Rattle.sap_net.specs.declared.parts.Wire.{Wire}

-- The wire differs from each of the others in its width or its right side.
abbrev pub DiffersFrom : Wire → List Wire → Type 0
DiffersFrom w ws = AllByRecursion (λ x. x.width ≡ w.width → x.right ≡ w.right → ⊥) ws

-- No two of the wires have the same width and the same right side.
abbrev pub AllDiffer : List Wire → Type 0
AllDiffer [] = Unit {0}
AllDiffer (w ∷ ws) = DiffersFrom w ws × AllDiffer ws
