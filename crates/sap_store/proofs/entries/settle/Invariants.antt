use Rattle.std.proofs.Common.{◌≡◌}
use Rattle.sap_store.specs.Code.{store_in, world_in}
use Rattle.sap_store.specs.Kept.{Ready}
use Rattle.sap_store.proofs.Settles.{settled_to}
use Rattle.sap_store.proofs.entries.settle.Given as goal

abbrev pub invariant-loop-x : goal.invariant-loop-x
invariant-loop-x l = record {
  store : store_in l.environment l.store ≡ settled_to l.x (store_in l.environment l.initial.store);
  ready : Ready (world_in l.environment) l.store;
}
