use Rattle.std.proofs.Common.{arith}
use Rattle.sap_trim.specs.Reads.{operands_reads, operand_reads}
use Rattle.sap_trim.proofs.Marked.{marks_more, operands_push}
use Rattle.sap_trim.proofs.needed.mark_operands.Goals as goal

pub loop-operand-preserved : goal.loop-operand-preserved
loop-operand-preserved c =
    marks_more operands_reads operand_reads operands_push c.args.places.now c.args.operands.now c.loop-operand.operand-index c.operand-item.result
    _ _ _ (omega arith) c.operand-item.is c.loop-operand.invariant c.mark_operand.ensures
