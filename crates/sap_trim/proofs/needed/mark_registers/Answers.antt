use Rattle.std.proofs.Common.{arith}
use Rattle.sap_trim.specs.Reads.{register_reads, operand_reads}
use Rattle.sap_trim.proofs.Marked.{marks_more, edges_push}
use Rattle.sap_trim.proofs.needed.mark_registers.Goals as goal

pub loop-register-preserved : goal.loop-register-preserved
loop-register-preserved c =
    marks_more register_reads (λ r. operand_reads r.next) edges_push c.args.places.now c.args.registers.now c.loop-register.register-index c.register-item.result
    _ _ _ (omega arith) c.register-item.is c.loop-register.invariant c.mark_operand.ensures
