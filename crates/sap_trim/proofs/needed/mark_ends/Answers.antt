use Rattle.sap_trim.proofs.Marked.{ends_marked}
use Rattle.sap_trim.proofs.needed.mark_ends.Goals as goal

pub returns : goal.returns
returns c =
    ends_marked c.args.places.now c.args.netlist.now c.ports.result.now c.registers.result.now c.memories.result.now c.args.marks.now
    c.mark_ports.new.marks c.mark_registers.new.marks c.mark_memories.new.marks
    c.ports.ensures c.registers.ensures c.memories.ensures c.mark_ports.ensures c.mark_registers.ensures c.mark_memories.ensures
