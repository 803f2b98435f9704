-- Valuations and runs.
use Rattle.std.specs.Prelude.{◌≡◌, ℕ, ◌^◌, ◌<◌, ◌==◌, ◌&&◌, List, [], ◌∷◌, Option, Some, None, if◌then◌else◌, map, unwrap_or}
use Rattle.std.specs.List.{AllByRecursion, AllZip}
use Rattle.sap_maps.specs.Maps.{Name, Valuation}
use Rattle.sap_maps.specs.Scope.{find}
use Rattle.sap_net.specs.declared.parts.Operand.{Operand}
use Rattle.sap_net.specs.declared.parts.Input.{Input}
use Rattle.sap_net.specs.declared.parts.Memory.{Memory}
use Rattle.sap_net.specs.Net.{Net}
use Rattle.sap_net.specs.IsNetlist.{readable, shapes, width_of}
use Rattle.sap_net.specs.Values.{operand_value, Holds}

-- Every number is within its width.
pub record IsWithin (n : Net) (v : Valuation) : Type 0 where
  pub value : (x : Name) (u : ℕ) → find (readable n) x ≡ Some u → v.value x < 2 ^ u
  pub cell : (m : Name) (s : ℕ × ℕ) → find (shapes n) m ≡ Some s → (i : ℕ) → v.cell m i < 2 ^ s.0

-- The numbers of a cycle between two edges: each is within its width, and every `assign` equation holds.
pub record IsValuation (n : Net) (v : Valuation) : Type 0 where
  pub within : IsWithin n v
  pub equations : Holds (width_of n) v n.wires

-- `written` is the number of cell `i` of a memory after the edge.
abbrev pub written : Valuation → Memory → (i : ℕ) → ℕ
written v m i = if operand_value v m.enable == 1 && operand_value v m.index == i
    then operand_value v m.value else v.cell m.name i

-- What registers and memories have as a cycle begins. In the first cycle they have their starts. In each later one a
-- register has its next operand's number in the cycle before, and a cell what was written to it there, or else its own
-- number. Cells from a memory's depth on keep their start and are never read.
abbrev pub Begins : Net → (before : Option Valuation) → Valuation → Type 0
Begins n None v =
    AllByRecursion (λ r. v.value r.name ≡ r.start) n.registers
    × AllByRecursion (λ m. (i : ℕ) → v.cell m.name i ≡ m.start) n.memories
Begins n (Some p) v =
    AllByRecursion (λ r. v.value r.name ≡ operand_value p r.next) n.registers
    × AllByRecursion (λ m. (i : ℕ) → v.cell m.name i ≡ written p m i) n.memories

-- `initial_number` is the number of a register before the first cycle.
abbrev pub initial_number : Net → Name → ℕ
initial_number n x = unwrap_or (find (map (λ r. (r.name, r.start)) n.registers) x) 0

-- `initial_cell` is the number of a memory's cells before the first cycle.
abbrev pub initial_cell : Net → Name → ℕ
initial_cell n x = unwrap_or (find (map (λ m. (m.name, m.start)) n.memories) x) 0

-- Before the first cycle registers and memories have their starts, and all else is 0.
abbrev pub initial : Net → Valuation
initial n = record { value = initial_number n; cell = λ x i. initial_cell n x }

-- One number for each input, within its width.
abbrev pub InputsFit : List Input → List ℕ → Type 0
InputsFit = AllZip (λ (i : Input) (x : ℕ). x < 2 ^ i.width)

-- The inputs have these numbers.
abbrev pub InputsAre : Valuation → List Input → List ℕ → Type 0
InputsAre v = AllZip (λ (i : Input) (x : ℕ). v.value i.name ≡ x)

-- This is the cycle after `before`, or the first, on these numbers of the inputs.
pub record IsCycle (n : Net) (before : Option Valuation) (inputs : List ℕ) (v : Valuation) : Type 0 where
  pub begins : Begins n before v
  pub given : InputsAre v n.inputs inputs
  pub valuation : IsValuation n v

-- These are the cycles after `before`, one on each list of inputs.
abbrev pub IsRunAfter : Net → (before : Option Valuation) → List (List ℕ) → List Valuation → Type 0
IsRunAfter n before [] [] = Unit {0}
IsRunAfter n before [] (v ∷ vs) = ⊥
IsRunAfter n before (xs ∷ xss) [] = ⊥
IsRunAfter n before (xs ∷ xss) (v ∷ vs) = IsCycle n before xs v × IsRunAfter n (Some v) xss vs

-- The valuations are those of a run from power-up on the rows of inputs.
abbrev pub IsRun : Net → List (List ℕ) → List Valuation → Type 0
IsRun n xss vs = IsRunAfter n None xss vs

-- Each row of inputs fits the inputs' count and widths.
abbrev pub AllFit : List Input → List (List ℕ) → Type 0
AllFit is xss = AllByRecursion (InputsFit is) xss

-- The number of a name as a cycle shows it: of a register, whose next operand is given, after the clock edge; of an
-- input or a wire before it.
abbrev pub value_after : Valuation → Name → Option Operand → ℕ
value_after v x None = v.value x
value_after v x (Some next) = operand_value v next

-- The number of a cell after a clock edge: what the write port writes, else what was there.
abbrev pub cell_after : Valuation → Name → (i : ℕ) → Option Memory → ℕ
cell_after v x i None = v.cell x i
cell_after v x i (Some m) = written v m i

-- What is seen of a cycle: inputs and wires before its clock edge, registers and memories after it.
abbrev pub observed : Net → Valuation → Valuation
observed n v =
    record {
      value = λ x. value_after v x (find (map (λ r. (r.name, r.next)) n.registers) x);
      cell = λ x i. cell_after v x i (find (map (λ m. (m.name, m)) n.memories) x);
    }
