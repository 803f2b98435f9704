use Rattle.sap_desk.specs.Desk.{finished}
use Rattle.sap_desk.proofs.Shown.{stepped}
use Rattle.sap_desk.proofs.memory.MemoryDeskDesk.finish.Goals as goal

pub returns-then-is_open-clause-told : goal.returns-then-is_open-clause-told
returns-then-is_open-clause-told c = stepped c.args.self.now.store c.close.new.self c.args.self.now.failures.blame (finished c.args.channel)
    c.args.self.now.blame_stands c.close.ensures.names c.close.ensures.told

pub invariant_of-self-2 : goal.invariant_of-self-2
invariant_of-self-2 c = record { blame_stands = c.fail.ensures.stands _ c.args.self.now.blame_stands c.has_file-is_named.ensures.within }
