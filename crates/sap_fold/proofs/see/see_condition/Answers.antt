use Rattle.std.proofs.Common.{sym, ◌∙◌}
use Rattle.sap_share.specs.Sets.{holds}
use Rattle.sap_fold.proofs.Negations.{condition_becomes}
use Rattle.sap_fold.proofs.see.see_condition.Goals as goal

pub returns-then-is-clause-becomes : goal.returns-then-is-clause-becomes
returns-then-is-clause-becomes c =
    let s = c.args.wires.now in
    let t = c.arm.new.wires in
    let x = c.args.choice in
    condition_becomes (holds c.args.taken.now) s.list.items s.next c.args.width x.condition c.in_ok-condition.condition x.when_one x.when_zero t.list.items t.next
    c.if-width-eq1.true (sym c.is.ensures ∙ c.if-is.true) c.in_ok-condition.ensures.arm
