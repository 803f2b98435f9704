use Rattle.std.proofs.Common.{length, ap}
use Rattle.sap_cycle.proofs.First.{numbers_filled}
use Rattle.sap_cycle.proofs.load.first_values.Goals as goal

pub returns : goal.returns
returns c =
    numbers_filled c.args.netlist.now c.new-numbers.result.items c.fill.new.numbers.items c.push_starts.new.numbers.items
    c.fill-2.new.numbers.items (length c.inputs.result.now) (length c.wires.result.now) c.registers.result.now
    (ap length c.inputs.ensures) c.registers.ensures (ap length c.wires.ensures) c.new-numbers.ensures.items
    (c.in_ok-fill.ensures {u = tt}) (c.in_ok-push_starts.ensures {u = tt}) (c.in_ok-fill-2.ensures {u = tt})
