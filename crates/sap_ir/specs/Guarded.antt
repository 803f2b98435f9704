-- What assignments under conditions do: in order, each over the numbers that the ones before it left.
use Rattle.std.specs.Prelude.{ℕ, ◌==◌, ◌&&◌, List, [], ◌∷◌, Option, Some, None, bytes_eq, if◌then◌else◌}
use Rattle.sap_maps.specs.Maps.{Name, Valuation, set_value}
use Rattle.sap_maps.specs.Term.{Term, term_value}
use Rattle.sap_ir.specs.declared.guarded.Var.{Var}
use Rattle.sap_ir.specs.declared.guarded.MemoryVariable.{MemoryVariable}
use Rattle.sap_ir.specs.Source.{Action, set, put, Command, Source, width_of}

-- The numbers on the way through a cycle. Memories are read as they were at its start, `now.cell`; writes go to `next`.
pub record Going : Type 0 where
  pub now : Valuation
  pub next : Name → ℕ → ℕ

-- The number of a term in the middle of a cycle.
abbrev pub value_in : (widths : Name → ℕ) → Going → Term Name → ℕ
value_in widths g t = term_value widths g.now.value g.now.cell t

-- Another number in one cell.
abbrev pub set_cell : (Name → ℕ → ℕ) → Name → (index number : ℕ) → Name → ℕ → ℕ
set_cell cells m i x n j = if bytes_eq n m && j == i then x else cells n j

-- What stands after an action: an assignment is seen at once, a cell's write only in the next cycle.
abbrev pub after_action : (widths : Name → ℕ) → Going → Action → Going
after_action widths g (set n t) = record { now = set_value g.now n (value_in widths g t); next = g.next }
after_action widths g (put m i t) = record {
  now = g.now;
  next = set_cell g.next m (value_in widths g i) (value_in widths g t);
}

-- What stands after a guarded command: the action takes effect where the guard is not 0.
abbrev pub after_command : (widths : Name → ℕ) → Going → Command → Going
after_command widths g c = if value_in widths g c.when == 0 then g else after_action widths g c.act

-- All in order.
abbrev pub after : (widths : Name → ℕ) → Going → List Command → Going
after widths g [] = g
after widths g (c ∷ cs) = after widths (after_command widths g c) cs

-- How a cycle begins: an input has the number that it is given, a register what it had after the cycle before, in the
-- first cycle its start, and a wire 0.

-- The number of a register at the start of a cycle: that of the cycle before, at power-up its start.
abbrev pub first_number : (before : Option Valuation) → Var → ℕ
first_number None x = x.start
first_number (Some v) x = v.value x.name

-- The number of a register by name at the start of a cycle; other names have 0.
abbrev pub register_number : (before : Option Valuation) → List Var → Name → ℕ
register_number before [] n = 0
register_number before (x ∷ xs) n = if bytes_eq x.name n then first_number before x else register_number before xs n

-- The number of a name at the start of a cycle: that of an input, else that of a register.
abbrev pub number_at_start : Source → (before : Option Valuation) → (inputs : List Var) → List ℕ → Name → ℕ
number_at_start s before [] xs n = register_number before s.registers n
number_at_start s before (i ∷ is) [] n = register_number before s.registers n
number_at_start s before (i ∷ is) (x ∷ xs) n = if bytes_eq i.name n then x else number_at_start s before is xs n

-- The number of a cell at the start of a cycle: that of the cycle before, at power-up the memory's start.
abbrev pub first_cell : (before : Option Valuation) → MemoryVariable → ℕ → ℕ
first_cell None m i = m.start
first_cell (Some v) m i = v.cell m.name i

-- The number of a cell by the memory's name at the start of a cycle; other names have 0.
abbrev pub cell_at_start : (before : Option Valuation) → List MemoryVariable → Name → ℕ → ℕ
cell_at_start before [] n i = 0
cell_at_start before (m ∷ ms) n i = if bytes_eq m.name n then first_cell before m i else cell_at_start before ms n i

-- What stands at the start of a cycle.
abbrev pub begun : Source → (before : Option Valuation) → List ℕ → Going
begun s before xs =
    let cells = cell_at_start before s.memories in
    record { now = record { value = number_at_start s before s.inputs xs; cell = cells }; next = cells }

-- The numbers after a cycle: the registers' and wires' last ones, and the memories' next contents.
abbrev pub ended : Going → Valuation
ended g = record { value = g.now.value; cell = g.next }

-- What stands at the end of a cycle: all commands have run in order.
abbrev pub cycle : Source → (before : Option Valuation) → List ℕ → Valuation
cycle s before xs = ended (after (width_of s) (begun s before xs) s.commands)

-- One list of inputs a cycle.
abbrev pub run_after : Source → (before : Option Valuation) → List (List ℕ) → List Valuation
run_after s before [] = []
run_after s before (xs ∷ xss) = let v = cycle s before xs in v ∷ run_after s (Some v) xss

-- The cycles of a run from power-up.
abbrev pub guarded_run : Source → List (List ℕ) → List Valuation
guarded_run s xss = run_after s None xss
