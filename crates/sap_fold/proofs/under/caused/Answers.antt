use Rattle.std.proofs.Common.{◌≡◌, ◌∙◌, sym, subst, rules}
use Rattle.sap_bits.specs.declared.Op1.TheVariants.{Not}
use Rattle.sap_net.specs.declared.parts.Right.TheVariants.{One, Two}
use Rattle.sap_fold.specs.Seen.{Defines}
use Rattle.sap_fold.proofs.Unders.{some_caused_negation, some_caused_both}
use Rattle.sap_fold.proofs.under.caused.Goals as goal

pub returns-in_ok-told-in-One-Not-default : goal.returns-in_ok-told-in-One-Not-default
returns-in_ok-told-in-One-Not-default c =
    let ws = c.args.wires.now.list.items in
    let s = c.in-One-Not-default in
    let e : c.in-Some.right.now ≡ One Not s.of = search rules in
    some_caused_negation ws c.args.known.bit.now s.of c.args.operand.now c.args.known.value c.in_ok-told-in-One-Not-default.told
    (subst (Defines ws c.args.known.bit.now) e c.in-Some.ensures) (c.in_ok-told-in-One-Not-default.ensures {u = tt})

pub returns-in_ok-both-in-Two : goal.returns-in_ok-both-in-Two
returns-in_ok-both-in-Two c =
    let ws = c.args.wires.now.list.items in
    let s = c.in-Two in
    let e : c.in-Some.right.now ≡ Two s.op s.a s.b = search rules in
    some_caused_both ws c.args.known.bit.now s.a s.b c.args.operand.now c.args.known.value s.op c.in_ok-both-in-Two.both (sym c.tells.ensures
    ∙ c.if-tells.true) (subst (Defines ws c.args.known.bit.now) e c.in-Some.ensures) (c.in_ok-both-in-Two.ensures {u = tt})

pub returns-in_ok-told-in-Choose : goal.returns-in_ok-told-in-Choose
returns-in_ok-told-in-Choose c = c.in_ok-told-in-Choose.ensures {u = tt} c.args.known.bit.now c.in-Some.ensures
