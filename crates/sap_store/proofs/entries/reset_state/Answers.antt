use Rattle.std.proofs.Common.{◌∙◌, ℕ, ap, sym}
use Rattle.sap_meaning.specs.Store.{Store, own, put_child, put_level}
use Rattle.sap_store.specs.declared.store.Store as code
use Rattle.sap_store.specs.Code.{world_in, store_in}
use Rattle.sap_store.proofs.Resets.{reset_dynamic, reset_enforced, reset_other}
use Rattle.sap_store.proofs.entries.reset_state.Goals as goal
use Rattle.sap_store.proofs.entries.reset_state.Goals.{then-is_dynamic, else-is_dynamic}

pub returns-after-is_dynamic-clause-store : goal.returns-after-is_dynamic-clause-store
returns-after-is_dynamic-clause-store c =
    let d = c.args.environment.now in
    let w = world_in d in
    let s = store_in d c.args.store.now in
    let e = sym c.is_state.ensures ∙ c.if-is_state.true in
    elim c.if-is_dynamic.branch [
      | then-is_dynamic v ↦
          c.put_child.ensures.store
          ∙ ap (λ (t : Store). put_child c.args.x 0 t)
          (ap (λ (t : code.Store). store_in d t) v.store-is ∙ v.put_level.ensures.store ∙ ap (λ (n : ℕ). put_level w (own c.args.x) n s) v.bottom.ensures)
          ∙ reset_dynamic w c.args.x s e (sym c.is_dynamic.ensures ∙ v.if-is_dynamic.true)
      | else-is_dynamic v ↦
          c.put_child.ensures.store
          ∙ ap (λ (t : code.Store). put_child c.args.x 0 (store_in d t)) v.store-is
          ∙ reset_enforced w c.args.x s e (sym c.is_dynamic.ensures ∙ v.if-is_dynamic.false)
    ]

pub returns-else-is_state-clause-store : goal.returns-else-is_state-clause-store
returns-else-is_state-clause-store c = sym
    (reset_other (world_in c.args.environment.now) c.args.x (store_in c.args.environment.now c.args.store.now) (sym c.is_state.ensures ∙ c.if-is_state.false))
