use Rattle.std.proofs.Common.{List, take}
use Rattle.sap_maps.specs.Prelude.{Name, find}
use Rattle.sap_net.specs.declared.parts.Wire.{Wire}
use Rattle.sap_trim.specs.Stays.{AllStay}
use Rattle.sap_trim.specs.Walked.{Starts}
use Rattle.sap_trim.proofs.walk.bind_starts.Given as goal

abbrev pub invariant-loop-register : goal.invariant-loop-register
invariant-loop-register l =
    (ws : List Wire) → AllStay ws (find l.stays) → (x : Name) → Starts ws (take l.register-index l.registers) x (find l.fn.stands x) (find l.stands x)
