use Rattle.std.proofs.Common.{◌≡◌, ◌≤◌}
use Rattle.sap_meaning.specs.Cycle.{inputs_before}
use Rattle.sap_store.specs.Code.{store_in, world_in}
use Rattle.sap_store.specs.Kept.{Ready}
use Rattle.sap_store.proofs.Resets.{set_to}
use Rattle.sap_store.proofs.entries.set_inputs.Given as goal

abbrev pub invariant-loop-x : goal.invariant-loop-x
invariant-loop-x l = record {
  store : store_in l.environment l.store ≡ set_to (world_in l.environment) l.inputs l.x (store_in l.environment l.initial.store);
  ready : Ready (world_in l.environment) l.store;
  before : l.k ≡ inputs_before (world_in l.environment).entities l.x;
  few : l.k ≤ l.x;
}
