use Rattle.std.proofs.Common.{◌≡◌, ◌++◌, drop, map}
use Rattle.sap_trim.specs.Built.{memory_of}
use Rattle.sap_trim.proofs.build.memories.Given as goal
use Rattle.sap_maps.specs.Scope.{find}

abbrev pub invariant-loop-given : goal.invariant-loop-given
invariant-loop-given l = l.made.items ++ map (memory_of (find l.stands)) (drop l.given-index l.memories) ≡ map (memory_of (find l.stands)) l.memories
