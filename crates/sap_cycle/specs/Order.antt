-- In what order steps find the numbers that they read.
use Rattle.std.specs.Prelude.{◌≡◌, ◌<◌, ◌+◌, ◌⊎◌, ℕ, Bool, true, List, [], ◌∷◌, Some, length, slice_get, slice_range}
use Rattle.std.specs.List.{AllByRecursion}
use Rattle.sap_cycle.specs.declared.steps.Slot.{Slot}
use Rattle.sap_cycle.specs.declared.steps.Slot.TheVariants.{At, Number}
use Rattle.sap_cycle.specs.declared.steps.Part.{Part}
use Rattle.sap_cycle.specs.declared.steps.Step.{Step}
use Rattle.sap_cycle.specs.declared.instructions.Instruction.{Instruction}
use Rattle.sap_cycle.specs.declared.instructions.Placed.{Placed}
use Rattle.sap_cycle.specs.declared.steps.Step.TheVariants.{Copy, One, Two, Choose, Concat, Pair, Slice, Cell}

-- The place that a slot names, if any, is known.
abbrev pub SlotAmong : (known : ℕ → Type 0) → Slot → Type 0
SlotAmong known (At k) = known k
SlotAmong known (Number x) = Unit {0}

-- Each part's slot is among those that are known.
abbrev pub PartsAmong : (known : ℕ → Type 0) → List Part → Type 0
PartsAmong known ps = AllByRecursion (λ p. SlotAmong known p.slot) ps

-- All places that a step reads are known.
abbrev pub ReadsAmong : (known : ℕ → Type 0) → List Part → Step → Type 0
ReadsAmong known parts (Copy a) = SlotAmong known a
ReadsAmong known parts (One op w a) = SlotAmong known a
ReadsAmong known parts (Two op w a b) = SlotAmong known a × SlotAmong known b
ReadsAmong known parts (Choose c a b) = SlotAmong known c × SlotAmong known a × SlotAmong known b
ReadsAmong known parts (Concat from to) = PartsAmong known (slice_range parts from to)
ReadsAmong known parts (Pair w a b) = SlotAmong known a × SlotAmong known b
ReadsAmong known parts (Slice a hi lo) = SlotAmong known a
ReadsAmong known parts (Cell base i) = SlotAmong known i

-- A place is known before a position of the list: it is one of the first, or that of a step that stands there earlier.
abbrev pub IsKnownBefore : (base : ℕ) → (placed : List (ℕ × Step)) → (position place : ℕ) → Type 0
IsKnownBefore base placed position place =
    (place < base) ⊎ ((earlier : ℕ) × (step : Step) × (earlier < position)
    × (slice_get placed earlier ≡ Some (place, step)))

-- One of these steps, at its place behind others.
abbrev pub IsOwn : (base : ℕ) → List Step → ℕ × Step → Type 0
IsOwn base steps p = (k : ℕ) × (p.0 ≡ base + k) × (slice_get steps k ≡ Some p.1)

-- The steps in an order in which each finds what it reads, where the places before the first are known from the start.
pub record IsOrder (base : ℕ) (parts : List Part) (steps : List Step) (placed : List (ℕ × Step)) : Type 0 where
  pub own : AllByRecursion (IsOwn base steps) placed
  pub finds : (k : ℕ) (p : ℕ × Step) → slice_get placed k ≡ Some p → ReadsAmong (IsKnownBefore base placed k) parts p.1
  pub all : (place : ℕ) → place < base + length steps → IsKnownBefore base placed (length placed) place

-- The instructions one behind another.
abbrev pub in_row : (base : ℕ) → List Instruction → List Placed
in_row base [] = []
in_row base (i ∷ is) = record { target = base; instruction = i } ∷ in_row (base + 1) is

-- The mark at a place is set.
abbrev pub IsMarked : (marks : List Bool) → ℕ → Type 0
IsMarked marks k = slice_get marks k ≡ Some true
