use Rattle.std.proofs.Common.{take}
use Rattle.sap_trim.specs.Needed.{Marks}
use Rattle.sap_trim.specs.Reads.{register_reads}
use Rattle.sap_trim.proofs.needed.mark_registers.Given as goal

abbrev pub invariant-loop-register : goal.invariant-loop-register
invariant-loop-register l = Marks l.places (register_reads (take l.register-index l.registers)) l.fn.marks l.marks
