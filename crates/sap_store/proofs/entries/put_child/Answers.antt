use Rattle.sap_store.specs.Code.{world_in}
use Rattle.sap_store.proofs.Puts.{child_store, child_stays_ready}
use Rattle.sap_store.proofs.entries.put_child.Goals as goal

pub returns-clause-store : goal.returns-clause-store
returns-clause-store c = child_store (world_in c.args.environment.now) c.args.store.now c.args.parent c.args.place c.requires.within c.requires.ready

pub returns-clause-ready : goal.returns-clause-ready
returns-clause-ready c = child_stays_ready (world_in c.args.environment.now) c.args.store.now c.args.parent c.args.place c.requires.within c.requires.ready
