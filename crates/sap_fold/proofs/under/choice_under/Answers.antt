use Rattle.std.proofs.Common.{◌≡◌, ◌∙◌, sym, subst, rules}
use Rattle.sap_net.specs.declared.parts.Right.{Right}
use Rattle.sap_net.specs.declared.parts.Right.TheVariants.{Choose}
use Rattle.sap_fold.specs.Seen.{Defines}
use Rattle.sap_fold.specs.Under.{number, Under}
use Rattle.sap_fold.proofs.Negations.{masked}
use Rattle.sap_fold.proofs.under.choice_under.Goals as goal

pub returns-then-is_masked : goal.returns-then-is_masked
returns-then-is_masked c =
    let ws = c.args.wires.now.list.items in
    let s = c.in-Some-Choose in
    let bit = c.args.known.bit.now in
    let x = c.args.operand.now in
    let e : s.field-0.now ≡ Choose s.by s.a s.b = search rules in
    subst (λ (r : Right). Under ws bit (number c.args.known.value) x r) (sym (c.in_ok-right.ensures {u = tt}))
    (masked ws bit x s.by s.a s.b c.args.known.value (subst (Defines ws x) e s.ensures) (sym c.is_masked.ensures ∙ c.if-is_masked.true))
