use Rattle.std.proofs.Common.{arith, ◌/◌, ◌≤◌, ◌∙◌, ℕ, List, length, take, ap, inr}
use Rattle.sap_desk.specs.Desk.{added, name_if_writing}
use Rattle.sap_desk.specs.Memory.{blame_of, uses_of}
use Rattle.sap_desk.specs.MemoryCalls.{fitting}
use Rattle.sap_desk.specs.Store.{told_in}
use Rattle.sap_desk.proofs.Shown.{stepped, failed_after, stands_still, refuted, shown_true}
use Rattle.sap_desk.proofs.Written.{took, fitting_part, fitting_all, fails_to_write}
use Rattle.sap_desk.proofs.memory.MemoryDeskDesk.write.Goals as goal

pub invariant_of-self : goal.invariant_of-self
invariant_of-self c = record {
  blame_stands = stands_still c.args.self.now.store.channels.items c.append.new.self.channels.items c.args.self.now.failures.blame
      c.fail.new.self.blame c.args.channel c.writes_file-is_named.result
      c.args.self.now.blame_stands c.append.ensures.names c.writes_file-is_named.ensures.within c.fail.ensures.stands;
}

pub returns-then-next-clause-half : goal.returns-then-next-clause-half
returns-then-next-clause-half c = λ _.
    let short : length c.args.bytes.now / 2 ≤ length c.args.bytes.now = omega arith in
    failed_after c.args.self.now.store c.append.new.self c.args.self.now.failures.blame c.fail.new.self.blame
    (λ t. added c.args.channel (take (fitting t c.args.channel (length c.args.bytes.now / 2)) c.args.bytes.now) t)
    c.args.channel c.writes_file-is_named.result (name_if_writing (uses_of c.args.self.now.store.channels.items c.args.channel))
    c.args.self.now.blame_stands c.append.ensures.names
    (λ name. c.append.ensures.told name ∙ ap (λ (part : List ℕ). added c.args.channel part (told_in c.args.self.now.store name))
    (fitting_part (told_in c.args.self.now.store name) c.args.channel (length c.args.bytes.now / 2) c.args.bytes.now short))
    c.writes_file-is_named.ensures.within c.writes_file-is_named.ensures.named c.fail.ensures.blame

pub returns-then-next-clause-failed : goal.returns-then-next-clause-failed
returns-then-next-clause-failed c =
    let short : length c.args.bytes.now / 2 ≤ length c.args.bytes.now = omega arith in
    took (told_in c.args.self.now.store (blame_of c.args.self.now.store.channels.items c.args.self.now.failures.blame)) _ c.args.channel
    (length c.args.bytes.now / 2) c.args.bytes.now short
    (returns-then-next-clause-half c (shown_true c.next.result c.next.ensures.due c.if-next.true))

pub returns-then-append-clause-told : goal.returns-then-append-clause-told
returns-then-append-clause-told c =
    stepped c.args.self.now.store c.append-2.new.self c.args.self.now.failures.blame (added c.args.channel c.args.bytes.now) c.args.self.now.blame_stands c.append-2.ensures.names
    (λ name. c.append-2.ensures.told name ∙ ap (λ (part : List ℕ). added c.args.channel part (told_in c.args.self.now.store name))
    (fitting_all (told_in c.args.self.now.store name) c.args.channel c.args.bytes.now c.if-append.ensures.writing c.if-append.ensures.whole))

pub invariant_of-self-2 : goal.invariant_of-self-2
invariant_of-self-2 c = record {
  blame_stands = stands_still c.args.self.now.store.channels.items c.append-2.new.self.channels.items c.args.self.now.failures.blame
      c.fail-2.new.self.blame c.args.channel c.writes_file-is_named.result
      c.args.self.now.blame_stands c.append-2.ensures.names c.writes_file-is_named.ensures.within c.fail-2.ensures.stands;
}

pub returns-clause-whole : goal.returns-clause-whole
returns-clause-whole c = λ _.
    failed_after c.args.self.now.store c.append-2.new.self c.args.self.now.failures.blame c.fail-2.new.self.blame
    (λ t. added c.args.channel (take (fitting t c.args.channel (length c.args.bytes.now)) c.args.bytes.now) t)
    c.args.channel c.writes_file-is_named.result (name_if_writing (uses_of c.args.self.now.store.channels.items c.args.channel))
    c.args.self.now.blame_stands c.append-2.ensures.names c.append-2.ensures.told
    c.writes_file-is_named.ensures.within c.writes_file-is_named.ensures.named c.fail-2.ensures.blame

pub returns-clause-failed : goal.returns-clause-failed
returns-clause-failed c =
    took (told_in c.args.self.now.store (blame_of c.args.self.now.store.channels.items c.args.self.now.failures.blame)) _ c.args.channel
    (length c.args.bytes.now) c.args.bytes.now (omega arith)
    (returns-clause-whole c (refuted c.next.result c.next.ensures.due c.if-next.false))

pub returns-clause-only : goal.returns-clause-only
returns-clause-only c =
    inr (fails_to_write (told_in c.args.self.now.store (blame_of c.args.self.now.store.channels.items c.args.self.now.failures.blame)) _ c.args.channel c.args.bytes.now
    (name_if_writing (uses_of c.args.self.now.store.channels.items c.args.channel))
    (c.args.self.now.store.stands.within_room c.args.channel) c.if-append.ensures.part (returns-clause-whole c (refuted c.next.result c.next.ensures.due c.if-next.false)))
