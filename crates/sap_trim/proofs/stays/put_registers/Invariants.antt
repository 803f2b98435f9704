use Rattle.std.proofs.Common.{[]}
use Rattle.sap_trim.specs.Stays.{AllStay}
use Rattle.sap_trim.proofs.stays.put_registers.Given as goal
use Rattle.sap_maps.specs.Scope.{find}

abbrev pub invariant-loop-register : goal.invariant-loop-register
invariant-loop-register l = AllStay [] (find l.stays)
