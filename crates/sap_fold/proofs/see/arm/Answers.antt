use Rattle.sap_lemmas.proofs.Common.{Option, subst, IfSome}
use Rattle.sap_net.specs.declared.parts.Right.{Right}
use Rattle.sap_share.specs.Sets.{holds}
use Rattle.sap_fold.specs.Under.{number, Under}
use Rattle.sap_fold.specs.Folding.{settled}
use Rattle.sap_fold.proofs.Becoming.{arm_itself, arm_known}
use Rattle.sap_fold.proofs.Sees.{equals_both}
use Rattle.sap_fold.proofs.Settling.{settled_equals}
use Rattle.sap_fold.proofs.see.arm.Goals as goal

pub returns-in_ok-provided-in-Some-clause-arm : goal.returns-in_ok-provided-in-Some-clause-arm
returns-in_ok-provided-in-Some-clause-arm c =
    let s = c.args.wires.now in
    let t = c.provide.new.self in
    let n = number c.args.known.value in
    let k = subst (λ (o : Option Right). IfSome o (λ r. Under s.list.items c.args.known.bit.now n c.args.operand r)) c.in-Some.is (c.in_ok-right.ensures {u = tt}) in
    let simple = c.in_ok-simple-in-Some.simple in
    arm_known (holds c.args.taken.now) s.list.items s.next c.args.width c.args.known.bit.now n c.args.operand c.in-Some.right
    (settled c.args.width simple) c.in_ok-provided-in-Some.provided t.list.items t.next
    k (equals_both s.list.items c.args.width c.in-Some.right simple (settled c.args.width simple) (c.in_ok-simple-in-Some.ensures {u = tt})
    (settled_equals s.list.items c.args.width simple)) c.in_ok-provided-in-Some.ensures.provides

pub returns-in-None-clause-arm : goal.returns-in-None-clause-arm
returns-in-None-clause-arm c =
    let s = c.args.wires.now in
    arm_itself (holds c.args.taken.now) s.list.items s.next c.args.width c.args.known.bit.now (number c.args.known.value) c.args.operand
