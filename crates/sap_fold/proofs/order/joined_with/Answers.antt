use Rattle.std.proofs.Common.{◌≡◌, subst, rules}
use Rattle.sap_bits.specs.declared.Op2.TheVariants.{Or}
use Rattle.sap_net.specs.declared.parts.Right.TheVariants.{Two}
use Rattle.sap_fold.specs.Seen.{Defines}
use Rattle.sap_fold.proofs.Ordering.{some_joined}
use Rattle.sap_fold.proofs.order.joined_with.Goals as goal

pub returns-in_ok-rest-in-Some-Two-Or-default-default : goal.returns-in_ok-rest-in-Some-Two-Or-default-default
returns-in_ok-rest-in-Some-Two-Or-default-default c =
    let ws = c.args.wires.now.list.items in
    let s = c.in-Some-Two-Or-default-default in
    let e : s.field-0.now ≡ Two Or s.a s.b = search rules in
    some_joined ws c.args.one.now c.args.wire.now s.a s.b c.in_ok-rest-in-Some-Two-Or-default-default.rest
    (subst (Defines ws c.args.wire.now) e s.ensures) (c.in_ok-rest-in-Some-Two-Or-default-default.ensures {u = tt})
