use Rattle.std.proofs.Common.{◌≡◌, ◌++◌, drop}
use Rattle.sap_lower.specs.Lookup.{shapes_of}
use Rattle.sap_lower.proofs.first.shape_list.Given as goal

abbrev pub invariant-loop-store : goal.invariant-loop-store
invariant-loop-store l = l.made.items ++ shapes_of (drop l.store-index l.stores) ≡ shapes_of l.stores
