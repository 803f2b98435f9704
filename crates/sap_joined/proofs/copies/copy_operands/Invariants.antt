use Rattle.std.proofs.Common.{◌≡◌, ◌++◌, drop, map}
use Rattle.sap_build.specs.Copies as copies
use Rattle.sap_linked.specs.Parts as parts
use Rattle.sap_joined.proofs.copies.copy_operands.Given as goal

abbrev pub invariant-loop-operand : goal.invariant-loop-operand
invariant-loop-operand l = l.made.items ++ map (copies.copy_operand (parts.in_part l.part)) (drop l.operand-index l.operands)
    ≡ map (copies.copy_operand (parts.in_part l.part)) l.operands
