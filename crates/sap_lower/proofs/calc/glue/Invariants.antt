use Rattle.std.proofs.Common.{◌≡◌, ◌++◌, [], ◌∷◌, length}
use Rattle.sap_lower.specs.Parts.{glued}
use Rattle.sap_lower.proofs.calc.glue.Given as goal

abbrev pub invariant-loop-part : goal.invariant-loop-part
invariant-loop-part l = glued l.wires (l.front.items ++ l.whole ∷ []) ≡ glued l.fn.wires l.fn.parts.items

abbrev pub decreases-loop-part : goal.decreases-loop-part
decreases-loop-part l = length l.front.items
