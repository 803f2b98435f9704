use Rattle.sap_store.specs.Code.{world_in}
use Rattle.sap_store.proofs.Puts.{cell_number_store, cell_number_ready}
use Rattle.sap_store.proofs.entries.put_cell_number.Goals as goal

pub returns-clause-store : goal.returns-clause-store
returns-clause-store c = cell_number_store (world_in c.args.environment.now) c.args.store.now c.args.memory c.index_mut-entry.result.now
    c.requires.within c.index_mut-entry.ensures.value c.requires.ready c.args.i c.args.number c.set_number.new.self c.set_number.ensures c.requires.below

pub returns-clause-ready : goal.returns-clause-ready
returns-clause-ready c = cell_number_ready (world_in c.args.environment.now) c.args.store.now c.args.memory c.index_mut-entry.result.now
    c.requires.within c.index_mut-entry.ensures.value c.requires.ready c.args.i c.args.number c.set_number.new.self c.set_number.ensures c.requires.below c.requires.fits
