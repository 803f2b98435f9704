use Rattle.std.proofs.Common.{length}
use Rattle.sap_desk.proofs.memory.MemoryDesk.new.Goals as goal

pub invariant_of-result : goal.invariant_of-result
invariant_of-result c = record { blame_stands = c.new-3.ensures.stands (length c.in_ok-new.field-0.channels.items) }
