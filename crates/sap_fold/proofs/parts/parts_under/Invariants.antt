use Rattle.std.proofs.Common.{take}
use Rattle.sap_fold.specs.Parts.{SameParts}
use Rattle.sap_fold.specs.Under.{number}
use Rattle.sap_fold.proofs.parts.parts_under.Given as goal

abbrev pub invariant-loop-operand : goal.invariant-loop-operand
invariant-loop-operand l = SameParts l.bit (number l.value) (take l.operand-index l.operands) l.parts.items
