use Rattle.std.proofs.Common.{◌≡◌, ◌∙◌, ap, sym, arith}
use Rattle.sap_meaning.specs.Prelude.{root, Store}
use Rattle.sap_store.specs.Code.{world_in, store_in}
use Rattle.sap_store.specs.Passes.{settled_one}
use Rattle.sap_store.proofs.Settles.{settled_to, settled_none, settled_next, settled_all}
use Rattle.sap_store.proofs.entries.settle.Goals as goal

pub settle_one-requires : goal.settle_one-requires
settle_one-requires c = record { ready = c.loop-x.invariant.ready; within = (let e = c.requires.shaped.entries in omega (arith, e)) }

pub loop-x-init : goal.loop-x-init
loop-x-init c = record { store = sym (settled_none (store_in c.args.environment.now c.args.store.now)); ready = c.requires }

pub loop-x-preserved : goal.loop-x-preserved
loop-x-preserved c = record {
  store =
      c.settle_one.ensures.store
      ∙ ap (λ (s : Store). settled_one c.loop-x.x s) c.loop-x.invariant.store
      ∙ settled_next (store_in c.args.environment.now c.args.store.now) c.loop-x.x;
  ready = c.settle_one.ensures.ready;
}

pub returns-clause-store : goal.returns-clause-store
returns-clause-store c =
    let w = world_in c.args.environment.now in
    let s = store_in c.args.environment.now c.args.store.now in
    let e : c.loop-x.x ≡ root w = (let h = c.requires.shaped.entries in omega (arith, h)) in
    c.loop-x.invariant.store ∙ ap (λ k. settled_to k s) e ∙ settled_all w c.args.store.now c.requires.shaped

pub returns-clause-ready : goal.returns-clause-ready
returns-clause-ready c = c.loop-x.invariant.ready
