use Rattle.std.proofs.Common.{◌≡◌, take}
use Rattle.sap_net.specs.Prelude.{Net, IsNetlist, Indexes, register_ports, port_widths, shown_among}
use Rattle.sap_sim.specs.Prelude.{Finds, register_widths}
use Rattle.sap_sim.proofs.shown.shown_among.Given as goal

abbrev pub invariant-loop-name : goal.invariant-loop-name
invariant-loop-name l =
    (n : Net) → IsNetlist n → Indexes l.ports (register_ports n.ports) → Finds l.widths (register_widths n.registers)
    → l.xs.items ≡ shown_among l.tag (port_widths n) (take l.name-index l.names)
