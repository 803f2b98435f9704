use Rattle.std.proofs.Common.{length}
use Rattle.sap_cpu.proofs.Assembled.{Assembling}
use Rattle.sap_cpu.proofs.assemble.assemble.Given as goal

abbrev pub invariant-loop-rest : goal.invariant-loop-rest
invariant-loop-rest l = Assembling l.text l.words l.count l.rest

abbrev pub decreases-loop-rest : goal.decreases-loop-rest
decreases-loop-rest l = length l.rest
