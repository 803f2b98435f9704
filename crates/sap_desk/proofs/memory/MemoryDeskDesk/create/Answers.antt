use Rattle.sap_lemmas.proofs.Common.{rules, length, ◌≡◌, string_bytes}
use Rattle.sap_desk.specs.Desk.{created}
use Rattle.sap_desk.proofs.Shown.{stepped}
use Rattle.sap_desk.proofs.memory.MemoryDeskDesk.create.Goals as goal

pub invariant_of-self-then-due : goal.invariant_of-self-then-due
invariant_of-self-then-due c = record { blame_stands = c.fail_file.ensures.stands (length c.args.self.now.store.channels.items) }

pub returns-in_err-open_writer-clause-memory : goal.returns-in_err-open_writer-clause-memory
returns-in_err-open_writer-clause-memory c = λ _.
    stepped c.args.self.now.store c.open_writer.new.self c.args.self.now.failures.blame (λ t. t) c.args.self.now.blame_stands
    c.open_writer.ensures.names c.in_err-open_writer.ensures.err.told

pub returns-clause-told : goal.returns-clause-told
returns-clause-told c =
    let name : string_bytes c.in_ok-copy.copy ≡ c.args.name.now = search rules in
    let told = stepped c.args.self.now.store c.open_writer.new.self c.args.self.now.failures.blame
    (created c.in_ok-open_writer.field-0 (string_bytes c.in_ok-copy.copy)) c.args.self.now.blame_stands c.open_writer.ensures.names c.in_ok-open_writer.ensures.told in
    rw name at told
