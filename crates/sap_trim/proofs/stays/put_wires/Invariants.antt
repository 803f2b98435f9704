use Rattle.std.proofs.Common.{take}
use Rattle.sap_trim.specs.Stays.{AllStay}
use Rattle.sap_trim.proofs.stays.put_wires.Given as goal
use Rattle.sap_maps.specs.Scope.{find}

abbrev pub invariant-loop-wire : goal.invariant-loop-wire
invariant-loop-wire l = AllStay (take l.wire-index l.wires) (find l.stays)
