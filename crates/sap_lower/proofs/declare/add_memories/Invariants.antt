use Rattle.std.proofs.Common.{◌≡◌, ◌++◌, drop}
use Rattle.sap_ir.specs.IsGuarded.{memory_names}
use Rattle.sap_lower.proofs.declare.add_memories.Given as goal

abbrev pub invariant-loop-store : goal.invariant-loop-store
invariant-loop-store l = l.made.items ++ memory_names (drop l.store-index l.stores) ≡ l.fn.made.items ++ memory_names l.stores
