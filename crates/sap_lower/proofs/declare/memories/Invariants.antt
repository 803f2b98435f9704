use Rattle.std.proofs.Common.{◌≡◌, ◌++◌, map, drop}
use Rattle.sap_lower.specs.Lowered.{memory_of}
use Rattle.sap_lower.proofs.declare.memories.Given as goal

abbrev pub invariant-loop-store : goal.invariant-loop-store
invariant-loop-store l = l.made.items ++ map (memory_of l.ports) (drop l.store-index l.stores) ≡ map (memory_of l.ports) l.stores
