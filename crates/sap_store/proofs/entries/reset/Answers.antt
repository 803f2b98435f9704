use Rattle.std.proofs.Common.{◌≡◌, ◌+◌, ◌∙◌, ap, arith}
use Rattle.sap_meaning.specs.Prelude.{last, Store}
use Rattle.sap_store.specs.Code.{world_in, store_in}
use Rattle.sap_store.specs.Passes.{reset_one}
use Rattle.sap_store.proofs.Resets.{reset_to, reset_none, reset_next, reset_all}
use Rattle.sap_store.proofs.entries.reset.Goals as goal

pub reset_state-requires-clause-ready : goal.reset_state-requires-clause-ready
reset_state-requires-clause-ready c = c.loop-x.invariant.ready

pub loop-x-init : goal.loop-x-init
loop-x-init c = record {
  store = c.put_child.ensures.store ∙ reset_none (world_in c.args.environment.now) c.args.target (store_in c.args.environment.now c.args.store.now);
  ready = c.put_child.ensures.ready;
}

pub loop-x-preserved : goal.loop-x-preserved
loop-x-preserved c =
    let w = world_in c.args.environment.now in
    record {
      store =
          c.reset_state.ensures.store
          ∙ ap (λ (s : Store). reset_one w c.loop-x.x s) c.loop-x.invariant.store
          ∙ reset_next w c.args.target (store_in c.args.environment.now c.args.store.now) c.loop-x.x (omega arith) (let e = c.last-last.ensures in omega (arith, e));
      ready = c.reset_state.ensures.ready;
    }

pub returns-clause-store : goal.returns-clause-store
returns-clause-store c =
    let w = world_in c.args.environment.now in
    let s = store_in c.args.environment.now c.args.store.now in
    let e : c.loop-x.x ≡ last w c.args.target + 1 = (let h = c.last-last.ensures in let i = c.requires.itself in omega (arith, h, i)) in
    c.loop-x.invariant.store ∙ ap (λ k. reset_to w c.args.target k s) e ∙ reset_all w c.args.target s

pub returns-clause-ready : goal.returns-clause-ready
returns-clause-ready c = c.loop-x.invariant.ready
