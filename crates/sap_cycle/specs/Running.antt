-- A netlist that runs.
use Rattle.std.specs.Prelude.{◌≡◌, ℕ, Bool, List, ◌++◌, map, Option, Some, None, if◌then◌else◌, is_some, nat_lt, slice_get}
use Rattle.std.specs.List.{range_with_len, flat_map}
use Rattle.sap_maps.specs.Maps.{Name, Valuation}
use Rattle.sap_maps.specs.Scope.{find}
use Rattle.sap_net.specs.declared.parts.Memory.{Memory}
use Rattle.sap_net.specs.Net.{Net}
use Rattle.sap_net.specs.IsNetlist.{input_names, register_names, wire_names, readable}
use Rattle.sap_net.specs.Runs.{initial, observed, IsCycle}

-- A runner as contracts see it: its netlist, whether it was stepped, the numbers of the inputs, registers and wires,
-- and the cells of all memories, one memory behind another.
pub record Running : Type 0 where
  pub net : Net
  pub stepped : Bool
  pub values : List ℕ
  pub cells : List ℕ

-- The inputs and registers.
abbrev pub first_names : Net → List Name
first_names n = input_names n ++ register_names n

-- The inputs, registers and wires.
abbrev pub value_names : Net → List Name
value_names n = first_names n ++ wire_names n

-- The cells of some memories.
abbrev pub cells_of : (cell : Name → ℕ → ℕ) → List Memory → List ℕ
cells_of cell ms = flat_map (λ m. map (cell m.name) (range_with_len 0 m.depth)) ms

-- What is seen before the first cycle, where registers and memories have their first numbers, and after a cycle.
abbrev pub seen : Net → (cycle : Option Valuation) → Valuation
seen n None = initial n
seen n (Some v) = observed n v

-- The runner shows this cycle, or no cycle yet.
pub record Shows (r : Running) (cycle : Option Valuation) : Type 0 where
  pub stepped : r.stepped ≡ is_some cycle
  pub values : r.values ≡ map (seen r.net cycle).value (value_names r.net)
  pub cells : r.cells ≡ cells_of (seen r.net cycle).cell r.net.memories

-- Whatever the runner showed before, it shows the cycle after that on these inputs.
abbrev pub ShowsNext : (old : Running) → (inputs : List ℕ) → (new : Running) → Type 0
ShowsNext old inputs new =
    (before : Option Valuation) (v : Valuation) → Shows old before → IsCycle old.net before inputs v
    → Shows new (Some v)

-- Registers can be seen always, inputs and wires from the first cycle on.
abbrev pub can_be_seen : Net → (cycle : Option Valuation) → Name → Bool
can_be_seen n None x = is_some (find (map (λ r. (r.name, r.width)) n.registers) x)
can_be_seen n (Some v) x = is_some (find (readable n) x)

-- The number that is seen at a name: none where the name isn't that of an input, register or wire, or can't be seen
-- yet.
abbrev pub value_seen : Net → (cycle : Option Valuation) → Name → Option ℕ
value_seen n cycle x = if can_be_seen n cycle x then Some ((seen n cycle).value x) else None

-- The number of a cell, where the memory has one of this index.
abbrev pub cell_below : Option Memory → (index number : ℕ) → Option ℕ
cell_below None i x = None
cell_below (Some m) i x = if nat_lt i m.depth then Some x else None

-- The number that is seen in a cell: none where the name isn't that of a memory, or the index isn't below its depth.
abbrev pub cell_seen : Net → (cycle : Option Valuation) → Name → (index : ℕ) → Option ℕ
cell_seen n cycle x i = cell_below (find (map (λ m. (m.name, m)) n.memories) x) i ((seen n cycle).cell x i)

-- The answer is the number that a name shows in the cycle that stands.
abbrev pub GivesValue : Running → Name → Option ℕ → Type 0
GivesValue r x number = (cycle : Option Valuation) → Shows r cycle → number ≡ value_seen r.net cycle x

-- The answer is the number of a cell in the cycle that stands.
abbrev pub GivesCell : Running → Name → (index : ℕ) → Option ℕ → Type 0
GivesCell r x i number = (cycle : Option Valuation) → Shows r cycle → number ≡ cell_seen r.net cycle x i

-- Inputs, registers and wires have places, counted in this order.
abbrev pub IsPlaceOf : Net → Name → (place : ℕ) → Type 0
IsPlaceOf n x k = slice_get (value_names n) k ≡ Some x

-- The number that is seen at the name of a place, or 0 where none can be seen yet.
abbrev pub GivesPlace : Running → (place number : ℕ) → Type 0
GivesPlace r k number = (cycle : Option Valuation) (x : Name) → Shows r cycle → IsPlaceOf r.net x k
    → number ≡ (seen r.net cycle).value x
