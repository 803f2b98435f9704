use Rattle.std.proofs.Common.{◌≡◌, subst, rules}
use Rattle.sap_net.specs.declared.parts.Right.TheVariants.{Concat}
use Rattle.sap_fold.specs.Seen.{Defines}
use Rattle.sap_fold.specs.Under.{number}
use Rattle.sap_fold.proofs.Unders.{some_under}
use Rattle.sap_fold.proofs.Parting.{some_whole}
use Rattle.sap_fold.proofs.under.right_known.Goals as goal

pub returns-in_ok-whole-in-Concat : goal.returns-in_ok-whole-in-Concat
returns-in_ok-whole-in-Concat c = λ ws x d.
    let s = c.in-Concat in
    let e : c.args.right.now ≡ Concat s.operands = search rules in
    some_whole ws c.args.known.bit.now x (number c.args.known.value) s.operands c.in_ok-whole-in-Concat.whole (subst (Defines ws x) e d) (c.in_ok-whole-in-Concat.ensures {u = tt})

pub returns-in_ok-rest-in_default : goal.returns-in_ok-rest-in_default
returns-in_ok-rest-in_default c = λ ws x d.
    some_under ws c.args.known.bit.now x c.args.known.value c.args.right.now c.in_ok-rest-in_default.rest d (c.in_ok-rest-in_default.ensures {u = tt})
