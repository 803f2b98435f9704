use Rattle.std.proofs.Common.{◌≡◌, ◌∙◌, ap, sym, arith, add-one, ℕ}
use Rattle.sap_meaning.specs.Prelude.{inputs_before, root, Store}
use Rattle.sap_store.specs.Code.{world_in, store_in}
use Rattle.sap_store.specs.Passes.{given_one}
use Rattle.sap_store.proofs.Resets.{set_to, set_none, set_all, given_step, none}
use Rattle.sap_store.proofs.entries.set_inputs.Goals as goal

pub set_input-k-requires : goal.set_input-k-requires
set_input-k-requires c = record {
  ready = c.loop-x.invariant.ready;
  fit = c.requires.fit;
  within = (let e = c.requires.ready.shaped.entries in omega (arith, e));
  before = c.loop-x.invariant.before;
  few = c.loop-x.invariant.few;
}

pub loop-x-init : goal.loop-x-init
loop-x-init c = record {
  store = sym (set_none (world_in c.args.environment.now) c.args.inputs.now (store_in c.args.environment.now c.args.store.now));
  ready = c.requires.ready;
  before = sym (none (world_in c.args.environment.now) c.args.inputs.now (world_in c.args.environment.now).entities);
  few = omega arith;
}

pub loop-x-preserved : goal.loop-x-preserved
loop-x-preserved c =
    let w = world_in c.args.environment.now in
    let i = c.args.inputs.now in
    record {
      store =
          c.set_input-k.ensures.store
          ∙ ap (λ (s : Store). given_one w i c.loop-x.x s) c.loop-x.invariant.store
          ∙ given_step w i (store_in c.args.environment.now c.args.store.now) c.loop-x.x;
      ready = c.set_input-k.ensures.ready;
      before = c.set_input-k.ensures.before ∙ ap (λ (n : ℕ). inputs_before w.entities n) (sym (add-one c.loop-x.x));
      few = c.set_input-k.ensures.few;
    }

pub returns-clause-store : goal.returns-clause-store
returns-clause-store c =
    let w = world_in c.args.environment.now in
    let s = store_in c.args.environment.now c.args.store.now in
    let e : c.loop-x.x ≡ root w = (let h = c.requires.ready.shaped.entries in omega (arith, h)) in
    c.loop-x.invariant.store ∙ ap (λ (k : ℕ). set_to w c.args.inputs.now k s) e ∙ set_all w c.args.inputs.now s

pub returns-clause-ready : goal.returns-clause-ready
returns-clause-ready c = c.loop-x.invariant.ready
