use Rattle.std.proofs.Common.{◌∙◌, Bool, ap, sym, nat_eq, if◌then◌else◌}
use Rattle.sap_meaning.specs.Store.{raise}
use Rattle.sap_store.specs.Code.{world_in, store_in}
use Rattle.sap_store.proofs.Raised.{one}
use Rattle.sap_run.proofs.effects.raise_dynamic.Goals as goal

pub returns-then-is_dynamic-clause-store : goal.returns-then-is_dynamic-clause-store
returns-then-is_dynamic-clause-store c =
    let w = world_in c.args.environment.now in
    let s = store_in c.args.environment.now c.args.store.now in
    c.raise_one.ensures.store
    ∙ one w c.args.level c.args.memory s c.requires.within
    ∙ ap (λ (q : Bool). if q then raise w.order (λ x. nat_eq x c.args.memory) c.args.level s else s) (sym (sym c.is_dynamic.ensures ∙ c.if-is_dynamic.true))
