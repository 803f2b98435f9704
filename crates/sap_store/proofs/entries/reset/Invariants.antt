use Rattle.std.proofs.Common.{◌≡◌}
use Rattle.sap_store.specs.Code.{store_in, world_in}
use Rattle.sap_store.specs.Kept.{Ready}
use Rattle.sap_store.proofs.Resets.{reset_to}
use Rattle.sap_store.proofs.entries.reset.Given as goal

abbrev pub invariant-loop-x : goal.invariant-loop-x
invariant-loop-x l = record {
  store : store_in l.environment l.store ≡ reset_to (world_in l.environment) l.target l.x (store_in l.environment l.fn.store);
  ready : Ready (world_in l.environment) l.store;
}
