use Rattle.std.proofs.Common.{◌≡◌, ◌++◌, drop, map}
use Rattle.sap_trim.specs.Built.{register_of}
use Rattle.sap_trim.proofs.build.registers.Given as goal
use Rattle.sap_maps.specs.Scope.{find}

abbrev pub invariant-loop-given : goal.invariant-loop-given
invariant-loop-given l = l.made.items ++ map (register_of (find l.stands)) (drop l.given-index l.registers) ≡ map (register_of (find l.stands)) l.registers
