use Rattle.std.proofs.Common.{◌≡◌, ◌++◌, map, drop}
use Rattle.sap_lower.specs.Lowered.{first_port}
use Rattle.sap_lower.proofs.first.port_list.Given as goal

abbrev pub invariant-loop-store : goal.invariant-loop-store
invariant-loop-store l = l.made.items ++ map first_port (drop l.store-index l.stores) ≡ map first_port l.stores
