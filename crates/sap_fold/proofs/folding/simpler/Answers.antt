use Rattle.std.proofs.Common.{refl}
use Rattle.sap_share.specs.Sets.{holds}
use Rattle.sap_fold.proofs.Becoming.{becomes_equal, becomes_both}
use Rattle.sap_fold.proofs.Folds.{folded_equals}
use Rattle.sap_fold.proofs.Sees.{equals_both}
use Rattle.sap_fold.proofs.folding.simpler.Goals as goal

pub returns-clause-becomes : goal.returns-clause-becomes
returns-clause-becomes c =
    let s = c.args.wires.now in
    let t = c.see.new.wires in
    let f = holds c.args.taken.now in
    let u = c.args.width in
    let seen = c.in_ok-seen.seen in
    let bits = c.in_ok-bits.bits in
    let ws = t.list.items in
    becomes_both f s.list.items s.next u c.args.given seen c.fold.result ws t.next ws t.next c.in_ok-seen.ensures.becomes
    (becomes_equal f ws t.next u seen c.fold.result
    (equals_both ws u seen bits c.fold.result (c.in_ok-bits.ensures {u = tt} ws) (folded_equals ws u bits c.fold.result bits c.fold.ensures refl)))
