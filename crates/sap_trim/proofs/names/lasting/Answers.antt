use Rattle.sap_trim.proofs.Loops.{lasting_held}
use Rattle.sap_trim.proofs.names.lasting.Goals as goal

pub returns : goal.returns
returns c = λ n.
    lasting_held n c.args.netlist.now c.ports.result.now c.registers.result.now c.memories.result.now c.new-names.result
    c.add_memories.new.names c.add_registers.new.names c.add_ports.new.names
    c.new-names.ensures c.ports.ensures c.registers.ensures c.memories.ensures
    (c.in_ok-add_memories.ensures {u = tt} n) (c.in_ok-add_registers.ensures {u = tt} n) (c.in_ok-add_ports.ensures {u = tt} n)
