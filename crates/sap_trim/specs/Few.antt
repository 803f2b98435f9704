-- How many wires a trimmed netlist has.
use Rattle.std.specs.Prelude.{ℕ, ◌+◌, ◌≤◌, not, List, filter, length}
use Rattle.sap_net.specs.Net.{Net}
use Rattle.sap_net.specs.declared.parts.Wire.{Wire}
pub use Rattle.sap_fold.specs.Settled.{is_copy}
use Rattle.sap_trim.specs.Names.{shown_wires}
use Rattle.sap_trim.specs.Needed.{needed_wires}

-- The wires that are no copies.
abbrev pub calculated : List Wire → List Wire
calculated ws = filter (λ w. not (is_copy w.right)) ws

-- It has at most one wire for each wire of the given netlist that is no copy, and one for each that is a port.
abbrev pub HasFewWires : (given result : Net) → Type 0
HasFewWires g r = length r.wires ≤ length (calculated g.wires) + length (shown_wires g)

-- One for each wire that is needed and no copy, and one for each that is a port.
abbrev pub most_left : Net → ℕ
most_left n = length (calculated (needed_wires n)) + length (shown_wires n)

-- The result needs no more wires than the given one.
abbrev pub NeedsNoMore : (given result : Net) → Type 0
NeedsNoMore g r = length (calculated r.wires) + length (shown_wires r) ≤ length (calculated g.wires)
    + length (shown_wires g)
