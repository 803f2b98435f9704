use Rattle.std.proofs.Common.{◌≡◌, ◌<◌, ◌^◌, ◌∙◌, ap, sym, subst, arith, ℕ}
use Rattle.sap_meaning.specs.Prelude.{Tagged, given, width, Store, own, put_number, put_level}
use Rattle.sap_store.specs.Code.{world_in, store_in}
use Rattle.sap_store.specs.Kept.{input_in}
use Rattle.sap_store.proofs.Fits.{input_fits}
use Rattle.sap_store.proofs.Resets.{given_input, given_none, before_input, before_other}
use Rattle.sap_store.proofs.entries.set_input.Goals as goal

pub put_number-requires-clause-fits : goal.put_number-requires-clause-fits
put_number-requires-clause-fits c =
    let w = world_in c.args.environment.now in
    let e : c.input_at-given.result ≡ given w c.args.inputs.now c.args.x = c.input_at-given.ensures ∙ ap (λ (k : ℕ). input_in w c.args.inputs.now k) c.requires.before in
    subst (λ (n : ℕ). n < 2 ^ width w c.args.x) (sym (c.number.ensures ∙ ap (λ (t : Tagged). t.number) e))
    (input_fits w c.args.inputs.now c.requires.fit c.args.x (sym c.is_input.ensures ∙ c.if-is_input.true))

pub returns-then-is_input-clause-store : goal.returns-then-is_input-clause-store
returns-then-is_input-clause-store c =
    let w = world_in c.args.environment.now in
    let s = store_in c.args.environment.now c.args.store.now in
    let e : c.input_at-given.result ≡ given w c.args.inputs.now c.args.x = c.input_at-given.ensures ∙ ap (λ (k : ℕ). input_in w c.args.inputs.now k) c.requires.before in
    c.put_level.ensures.store
    ∙ ap (λ (t : Store). put_level w (own c.args.x) c.level.result t) c.put_number.ensures.store
    ∙ ap (λ (n : ℕ). put_level w (own c.args.x) c.level.result (put_number (own c.args.x) n s)) (c.number.ensures ∙ ap (λ (t : Tagged). t.number) e)
    ∙ ap (λ (n : ℕ). put_level w (own c.args.x) n (put_number (own c.args.x) (given w c.args.inputs.now c.args.x).number s)) (c.level.ensures ∙ ap (λ (t : Tagged). t.level) e)
    ∙ given_input w c.args.inputs.now s c.args.x (sym c.is_input.ensures ∙ c.if-is_input.true)

pub returns-then-is_input-clause-before : goal.returns-then-is_input-clause-before
returns-then-is_input-clause-before c =
    let w = world_in c.args.environment.now in
    let e = before_input w c.args.inputs.now c.args.x c.requires.within (sym c.is_input.ensures ∙ c.if-is_input.true) in
    let f = c.requires.before in
    omega (arith, e, f)

pub returns-else-is_input-clause-store : goal.returns-else-is_input-clause-store
returns-else-is_input-clause-store c = sym
    (given_none (world_in c.args.environment.now) c.args.inputs.now (store_in c.args.environment.now c.args.store.now) c.args.x (sym c.is_input.ensures ∙ c.if-is_input.false))

pub returns-else-is_input-clause-before : goal.returns-else-is_input-clause-before
returns-else-is_input-clause-before c =
    let w = world_in c.args.environment.now in
    c.requires.before ∙ sym (before_other w c.args.inputs.now c.args.x c.requires.within (sym c.is_input.ensures ∙ c.if-is_input.false))
