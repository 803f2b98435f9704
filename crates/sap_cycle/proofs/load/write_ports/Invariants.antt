use Rattle.std.proofs.Common.{◌≡◌, take}
use Rattle.sap_cycle.specs.Known.{ports_found}
use Rattle.sap_cycle.proofs.load.write_ports.Given as goal

abbrev pub invariant-loop-i : goal.invariant-loop-i
invariant-loop-i l = l.list.items ≡ ports_found l.known 0 (take l.i l.memories)
