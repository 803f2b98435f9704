use Rattle.std.proofs.Common.{take}
use Rattle.sap_trim.specs.Needed.{Marks}
use Rattle.sap_trim.specs.Reads.{operands_reads}
use Rattle.sap_trim.proofs.needed.mark_operands.Given as goal

abbrev pub invariant-loop-operand : goal.invariant-loop-operand
invariant-loop-operand l = Marks l.places (operands_reads (take l.operand-index l.operands)) l.fn.marks l.marks
