use Rattle.sap_share.specs.Sets.{holds}
use Rattle.sap_fold.specs.Folding.{settled}
use Rattle.sap_fold.proofs.Becoming.{becomes_both, becomes_equal, gives_becoming, gives_provided}
use Rattle.sap_fold.proofs.Settling.{settled_equals}
use Rattle.sap_fold.proofs.folding.fold_in_rounds.Goals as goal

pub returns-clause-gives : goal.returns-clause-gives
returns-clause-gives c =
    let s = c.args.wires.now in
    let x = c.simpler.new.wires in
    let y = c.simpler-2.new.wires in
    let z = c.simpler-3.new.wires in
    let t = c.provide.new.self in
    let f = holds c.args.taken.now in
    let u = c.args.width in
    let a = c.args.given in
    let b = c.in_ok-once.once in
    let d = c.in_ok-twice.twice in
    let e = c.in_ok-folded.folded in
    let o = c.in_ok-operand.operand in
    let g = settled u e in
    gives_becoming f s.list.items s.next u a g o z.list.items z.next t.list.items t.next
    (becomes_both f s.list.items s.next u a e g z.list.items z.next z.list.items z.next
    (becomes_both f s.list.items s.next u a d e y.list.items y.next z.list.items z.next
    (becomes_both f s.list.items s.next u a b d x.list.items x.next y.list.items y.next c.in_ok-once.ensures.becomes c.in_ok-twice.ensures.becomes) c.in_ok-folded.ensures.becomes)
    (becomes_equal f z.list.items z.next u e g (settled_equals z.list.items u e)))
    (gives_provided f z.list.items z.next u g o t.list.items t.next c.in_ok-operand.ensures.provides)
