use Rattle.std.proofs.Common.{◌+◌, ◌∙◌, ap, sym, arith, drop}
use Rattle.sap_lattice.specs.Levels.{order_of}
use Rattle.sap_meaning.specs.Store.{Store}
use Rattle.sap_store.specs.Code.{world_in, store_in, entities_in}
use Rattle.sap_store.proofs.Worlds.{root_is}
use Rattle.sap_store.proofs.Raised.{each, each-drop, each-past, each-flags}
use Rattle.sap_store.proofs.entries.raise.Goals as goal

pub raise_one-requires : goal.raise_one-requires
raise_one-requires c = c.loop-x.invariant.ready

pub loop-x-preserved : goal.loop-x-preserved
loop-x-preserved c =
    let w = world_in c.args.environment.now in
    let hang = c.args.hang.now in
    record {
      store =
          ap (λ (s : Store). each w c.args.level (drop (c.loop-x.x-index + 1) hang) s) c.raise_one.ensures.store
          ∙ sym (each-drop w c.args.level hang c.loop-x.x-index (store_in c.args.environment.now c.loop-x.store) (omega arith))
          ∙ c.loop-x.invariant.store;
      ready = c.raise_one.ensures.ready;
    }

pub returns-clause-store : goal.returns-clause-store
returns-clause-store c =
    let d = c.args.environment.now in
    let w = world_in d in
    let hang = c.args.hang.now in
    sym (each-past w c.args.level hang c.loop-x.x-index (store_in d c.loop-x.store) (omega arith))
    ∙ c.loop-x.invariant.store
    ∙ each-flags w c.args.level (entities_in d) hang (store_in d c.args.store.now) (sym (root_is (order_of d.lattice.now) d.program.now)) c.requires.rising

pub returns-clause-ready : goal.returns-clause-ready
returns-clause-ready c = c.loop-x.invariant.ready
