-- No memory is written twice in a cycle.
use Rattle.std.specs.Prelude.{◌≡◌, ◌≢◌, ◌≤◌, ℕ, false, List, count_by}
use Rattle.sap_tree.specs.Syntax.{DesignTree}
use Rattle.sap_lattice.specs.Order.{Laws}
use Rattle.sap_lattice.specs.Levels.{Levels, order_of}
use Rattle.sap_shape.specs.WellFormed.{WellFormed}
use Rattle.sap_meaning.specs.Program.{World, Program, Step, is_dynamic}
use Rattle.sap_meaning.specs.Store.{Store, start, number, level}
use Rattle.sap_meaning.specs.Cycle.{Tagged, cycle}
use Rattle.sap_meaning.specs.State.{Resting}
use Rattle.sap_meaning.specs.Once.{step_writes}
use Rattle.sap_resolved.specs.Fill.{program_of}
use Rattle.sap_secure.specs.Once.Steps.{cycle_steps}

-- How many of the steps write or retag a cell of the memory m, refused or not.
abbrev pub writes_to : ℕ → List Step → ℕ
writes_to m steps = count_by (λ k. step_writes k m) steps

-- In each cycle at most one step comes that writes or retags a cell of a memory.
abbrev pub WritesOnce : Program → Type 0
WritesOnce p = (inputs : List Tagged) (s : Store) (m : ℕ) → writes_to m (cycle_steps p inputs s) ≤ 1

-- Cell i has the number that it had, and in an enforced memory the level.
pub record CellStays (w : World) (m i : ℕ) (s t : Store) : Type 0 where
  pub number : number (start m i) t ≡ number (start m i) s
  pub level : is_dynamic w m ≡ false → level w (start m i) t ≡ level w (start m i) s

-- From a state between cycles, a cycle to which no step comes that writes or retags a cell of a memory changes none of
-- its cells.
abbrev pub UnwrittenStays : Program → Type 0
UnwrittenStays p = (inputs : List Tagged) (s : Store) → Resting p.world s → (m : ℕ)
    → writes_to m (cycle_steps p inputs s) ≡ 0
    → (i : ℕ) → CellStays p.world m i s (cycle p inputs s).store

-- From a state between cycles, every cycle changes at most one cell of a memory.
abbrev pub ChangesOneCell : Program → Type 0
ChangesOneCell p = (inputs : List Tagged) (s : Store) → Resting p.world s → (m : ℕ)
    → (i : ℕ) × ((j : ℕ) → j ≢ i → CellStays p.world m j s (cycle p inputs s).store)

-- A law of programs holds of the program of every design that is well formed over a lattice.
abbrev pub InDesigns : (Program → Type 0) → Type 0
InDesigns Law = (ls : Levels) (d : DesignTree) → Laws (order_of ls) → WellFormed ls d → Law (program_of ls d)

-- In designs, a cycle writes each memory at most once.
abbrev pub DesignsWriteOnce : Type 0
DesignsWriteOnce = InDesigns WritesOnce

-- In designs, the cells of a memory that no step of a cycle writes are as they were.
abbrev pub UnwrittenStaysInDesigns : Type 0
UnwrittenStaysInDesigns = InDesigns UnwrittenStays

-- In designs, a cycle changes at most one cell of each memory.
abbrev pub DesignsChangeOneCell : Type 0
DesignsChangeOneCell = InDesigns ChangesOneCell
