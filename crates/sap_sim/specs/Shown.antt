-- The registers that rows show, and the rows of the cycles of a netlist.
use Rattle.std.specs.Prelude.{ℕ, List, map}
use Rattle.sap_lattice.specs.Levels.{Levels}
use Rattle.sap_maps.specs.Maps.{Name, Valuation}
use Rattle.sap_maps.specs.Scope.{Scope}
use Rattle.sap_net.specs.declared.parts.Register.{Register}
use Rattle.sap_net.specs.Net.{Net}
use Rattle.sap_net.specs.PortNames.{value_name, tag_name}
use Rattle.sap_net.specs.Shown.{register_ports, port_widths, shown_among}
use Rattle.sap_stim.specs.Rows.{row_text, shown_of}
use Rattle.sap_sim.specs.Fields.{tag_width}
use Rattle.sap_sim.specs.Told.{told_from}

-- Registers with their widths.
abbrev pub register_widths : List Register → Scope
register_widths rs = map (λ r. (r.name, r.width)) rs

-- Each x with an `output reg` port `v_x` that has such a `t_x`, in port order.
abbrev pub shown_registers : Levels → Net → List Name
shown_registers ls n = shown_among (tag_width ls) (port_widths n) (register_ports n.ports)

-- The row of a cycle, by its number and what is seen of it.
abbrev pub row_of : Levels → List Name → (cycle : ℕ) → Valuation → List ℕ
row_of ls xs cycle v = row_text cycle (shown_of ls xs (map (λ x. v.value (value_name x)) xs)
    (map (λ x. v.value (tag_name x)) xs))

-- The rows of a run, from a cycle on.
abbrev pub rows_from : Levels → List Name → (cycle : ℕ) → List Valuation → List ℕ
rows_from ls xs = told_from (row_of ls xs)
