use Rattle.sap_store.specs.Code.{world_in}
use Rattle.sap_store.proofs.Puts.{settle_store, settle_ready, depths_same}
use Rattle.sap_store.proofs.entries.settle_one.Goals as goal

pub take-requires : goal.take-requires
take-requires c = depths_same (world_in c.args.environment.now) c.args.store.now c.args.x c.index_mut-entry.result.now c.requires.within
    c.index_mut-entry.ensures.value c.requires.ready

pub returns-clause-store : goal.returns-clause-store
returns-clause-store c = settle_store (world_in c.args.environment.now) c.args.store.now c.args.x c.index_mut-entry.result.now
    c.requires.within c.index_mut-entry.ensures.value c.requires.ready c.take.new.self c.take.ensures

pub returns-clause-ready : goal.returns-clause-ready
returns-clause-ready c = settle_ready (world_in c.args.environment.now) c.args.store.now c.args.x c.index_mut-entry.result.now
    c.requires.within c.index_mut-entry.ensures.value c.requires.ready c.take.new.self c.take.ensures
