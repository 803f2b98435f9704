use Rattle.std.proofs.Common.{◌≡◌, drop}
use Rattle.sap_store.specs.Code.{store_in, world_in}
use Rattle.sap_store.specs.Kept.{Ready}
use Rattle.sap_store.proofs.Raised.{each}
use Rattle.sap_store.proofs.entries.raise.Given as goal

abbrev pub invariant-loop-x : goal.invariant-loop-x
invariant-loop-x l = record {
  store : each (world_in l.environment) l.level (drop l.x-index l.hang) (store_in l.environment l.store)
      ≡ each (world_in l.environment) l.level l.hang (store_in l.environment l.initial.store);
  ready : Ready (world_in l.environment) l.store;
}
