use Rattle.sap_store.specs.Code.{world_in}
use Rattle.sap_store.proofs.Puts.{level_store, level_stays_ready}
use Rattle.sap_store.proofs.entries.put_level.Goals as goal

pub returns-clause-store : goal.returns-clause-store
returns-clause-store c = level_store (world_in c.args.environment.now) c.args.store.now c.args.x c.index_mut-entry.result.now
    c.requires.within c.index_mut-entry.ensures.value c.requires.ready c.args.level

pub returns-clause-ready : goal.returns-clause-ready
returns-clause-ready c = level_stays_ready (world_in c.args.environment.now) c.args.store.now c.args.x c.index_mut-entry.result.now
    c.requires.within c.index_mut-entry.ensures.value c.requires.ready c.args.level
