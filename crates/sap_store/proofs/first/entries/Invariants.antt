use Rattle.std.proofs.Common.{◌≡◌, map, take}
use Rattle.sap_store.specs.Code.{world_in}
use Rattle.sap_store.specs.First.{started}
use Rattle.sap_store.proofs.first.entries.Given as goal

abbrev pub invariant-loop-entity : goal.invariant-loop-entity
invariant-loop-entity l = l.entries.items ≡ map (started (world_in l.environment).order.bottom) (take l.entity-index l.entity-items)
