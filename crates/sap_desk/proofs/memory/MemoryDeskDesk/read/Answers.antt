use Rattle.std.proofs.Common.{ap, ◌∙◌}
use Rattle.sap_desk.specs.Desk.{moved, name_if_reading}
use Rattle.sap_desk.specs.Memory.{uses_of}
use Rattle.sap_desk.specs.Store.{told_in}
use Rattle.sap_desk.specs.declared.store.Store.{Store}
use Rattle.sap_desk.proofs.Shown.{stepped, failed_after, names_kept, stands_still}
use Rattle.sap_desk.proofs.memory.MemoryDeskDesk.read.Goals as goal

pub invariant_of-self : goal.invariant_of-self
invariant_of-self c = record {
  blame_stands = stands_still c.args.self.now.store.channels.items c.ask.new.self.channels.items c.args.self.now.failures.blame
      c.fail.new.self.blame c.args.channel c.reads_file-is_named.result
      c.args.self.now.blame_stands c.ask.ensures.names c.reads_file-is_named.ensures.within c.fail.ensures.stands;
}

pub returns-then-next-clause-failed : goal.returns-then-next-clause-failed
returns-then-next-clause-failed c =
    failed_after c.args.self.now.store c.ask.new.self c.args.self.now.failures.blame c.fail.new.self.blame (moved c.args.channel 0)
    c.args.channel c.reads_file-is_named.result (name_if_reading (uses_of c.args.self.now.store.channels.items c.args.channel))
    c.args.self.now.blame_stands c.ask.ensures.names c.ask.ensures.told c.reads_file-is_named.ensures.within c.reads_file-is_named.ensures.named c.fail.ensures.blame

pub invariant_of-self-in-None : goal.invariant_of-self-in-None
invariant_of-self-in-None c = record {
  blame_stands = stands_still c.args.self.now.store.channels.items c.ask-in-None.new.self.channels.items c.args.self.now.failures.blame
      c.fail-in-None.new.self.blame c.args.channel c.reads_file-is_named.result
      c.args.self.now.blame_stands (names_kept c.read.new.self c.args.self.now.store c.in-None.ensures.none c.ask-in-None.new.self c.ask-in-None.ensures.names)
      c.reads_file-is_named.ensures.within c.fail-in-None.ensures.stands;
}

pub returns-in-None-clause-failed : goal.returns-in-None-clause-failed
returns-in-None-clause-failed c =
    failed_after c.args.self.now.store c.ask-in-None.new.self c.args.self.now.failures.blame c.fail-in-None.new.self.blame (moved c.args.channel 0)
    c.args.channel c.reads_file-is_named.result (name_if_reading (uses_of c.args.self.now.store.channels.items c.args.channel))
    c.args.self.now.blame_stands (names_kept c.read.new.self c.args.self.now.store c.in-None.ensures.none c.ask-in-None.new.self c.ask-in-None.ensures.names)
    (λ name. c.ask-in-None.ensures.told name ∙ ap (λ (s : Store). moved c.args.channel 0 (told_in s name)) c.in-None.ensures.none)
    c.reads_file-is_named.ensures.within c.reads_file-is_named.ensures.named c.fail-in-None.ensures.blame

pub returns-in-Some-clause-told : goal.returns-in-Some-clause-told
returns-in-Some-clause-told c = stepped c.args.self.now.store c.read.new.self c.args.self.now.failures.blame
    (moved c.args.channel c.in-Some.count) c.args.self.now.blame_stands c.read.ensures.names c.in-Some.ensures.told

pub returns-in-Some-clause-gave : goal.returns-in-Some-clause-gave
returns-in-Some-clause-gave c = c.in-Some.ensures.gave _
