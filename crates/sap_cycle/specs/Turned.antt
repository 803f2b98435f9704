-- A cycle on the arrays of values and cells.
use Rattle.std.specs.Prelude.{ℕ, ◌+◌, ◌≤◌, List, length, map}
use Rattle.sap_cycle.specs.declared.program.Program.{Program}
use Rattle.sap_cycle.specs.Runs.{steps_of_runs}
use Rattle.sap_cycle.specs.Steps.{slot_value, settled, AreReady, AreIn, copied, stored, ArePortsReady}

-- The values with these inputs and the wires' numbers, and the registers as before.
abbrev pub before_edge : Program → (inputs values cells : List ℕ) → List ℕ
before_edge p inputs values cells =
    settled cells p.parts.items (steps_of_runs p.others.items p.runs.items) (copied 0 inputs values)

-- The values after a clock edge.
abbrev pub values_turned : Program → (inputs values cells : List ℕ) → List ℕ
values_turned p inputs values cells =
    let b = before_edge p inputs values cells in copied (length inputs) (map (slot_value b) p.nexts.items) b

-- The cells after a clock edge.
abbrev pub cells_turned : Program → (inputs values cells : List ℕ) → List ℕ
cells_turned p inputs values cells = stored (before_edge p inputs values cells) p.ports.items cells

-- A cycle can be computed: there is room for the inputs and registers, and each step, register and port is ready.
pub record CanTurn (p : Program) (inputs values cells : List ℕ) : Type 0 where
  pub room : length inputs + length p.nexts.items ≤ length values
  pub ready : AreReady cells p.parts.items (steps_of_runs p.others.items p.runs.items) (copied 0 inputs values)
  pub nexts : AreIn (before_edge p inputs values cells) p.nexts.items
  pub ports : ArePortsReady (before_edge p inputs values cells) p.ports.items cells
