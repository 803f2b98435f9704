-- What steps over an array of values and an array of cells give.
use Rattle.std.specs.Prelude.{ℕ, ◌+◌, ◌-◌, ◌^◌, ◌<◌, ◌≤◌, ◌==◌, List, [], ◌∷◌, ◌++◌, if◌then◌else◌, length, take, drop, slice_index, slice_range, slice_set}
use Rattle.std.specs.List.{AllByRecursion}
use Rattle.sap_bits.specs.Arithmetic.{value1, value2, slice_of, joined, RightFits}
use Rattle.sap_cycle.specs.declared.steps.Slot.{Slot}
use Rattle.sap_cycle.specs.declared.steps.Slot.TheVariants.{At, Number}
use Rattle.sap_cycle.specs.declared.steps.Part.{Part}
use Rattle.sap_cycle.specs.declared.steps.Step.{Step}
use Rattle.sap_cycle.specs.declared.steps.Step.TheVariants.{Copy, One, Two, Choose, Concat, Pair, Slice, Cell}
use Rattle.sap_cycle.specs.declared.steps.WritePort.{WritePort}

-- The number in a slot.
abbrev pub slot_value : (values : List ℕ) → Slot → ℕ
slot_value values (At k) = slice_index values k
slot_value values (Number x) = x

-- The parts behind a number.
abbrev pub joined_from : (values : List ℕ) → (front : ℕ) → List Part → ℕ
joined_from values front [] = front
joined_from values front (p ∷ ps) = joined_from values (joined front p.width (slot_value values p.slot)) ps

-- The number that a step gives.
abbrev pub step_value : (values cells : List ℕ) → List Part → Step → ℕ
step_value values cells parts (Copy a) = slot_value values a
step_value values cells parts (One op w a) = value1 op w (slot_value values a)
step_value values cells parts (Two op w a b) = value2 op w (slot_value values a) (slot_value values b)
step_value values cells parts (Choose c a b) = if slot_value values c == 0 then slot_value values b
    else slot_value values a
step_value values cells parts (Concat from to) = joined_from values 0 (slice_range parts from to)
step_value values cells parts (Pair w a b) = joined (slot_value values a) w (slot_value values b)
step_value values cells parts (Slice a hi lo) = slice_of (slot_value values a) hi lo
step_value values cells parts (Cell base i) = slice_index cells (base + slot_value values i)

-- The slot's place is among the values.
abbrev pub SlotIn : (values : List ℕ) → Slot → Type 0
SlotIn values (At k) = k < length values
SlotIn values (Number x) = Unit {0}

-- The slots' places are among the values.
abbrev pub AreIn : (values : List ℕ) → List Slot → Type 0
AreIn values slots = AllByRecursion (SlotIn values) slots

-- The parts fit into 64 bits behind a number.
abbrev pub ArePartsReady : (values : List ℕ) → (front : ℕ) → List Part → Type 0
ArePartsReady values front [] = Unit {0}
ArePartsReady values front (p ∷ ps) =
    SlotIn values p.slot × (1 ≤ p.width) × (p.width ≤ 64) × (front < 2 ^ (64 - p.width))
    × (slot_value values p.slot < 2 ^ p.width)
    × ArePartsReady values (joined front p.width (slot_value values p.slot)) ps

-- What a step asks of the numbers.
abbrev pub IsReady : (values cells : List ℕ) → List Part → Step → Type 0
IsReady values cells parts (Copy a) = SlotIn values a
IsReady values cells parts (One op w a) = (1 ≤ w) × (w ≤ 64) × SlotIn values a × (slot_value values a < 2 ^ w)
IsReady values cells parts (Two op w a b) =
    (1 ≤ w) × (w ≤ 64) × SlotIn values a × SlotIn values b × (slot_value values a < 2 ^ w)
    × RightFits op w (slot_value values b)
IsReady values cells parts (Choose c a b) = SlotIn values c × SlotIn values a × SlotIn values b
IsReady values cells parts (Concat from to) =
    (from ≤ to) × (to ≤ length parts) × ArePartsReady values 0 (slice_range parts from to)
IsReady values cells parts (Pair w a b) =
    SlotIn values a × SlotIn values b × (1 ≤ w) × (w ≤ 64) × (slot_value values a < 2 ^ (64 - w))
    × (slot_value values b < 2 ^ w)
IsReady values cells parts (Slice a hi lo) = SlotIn values a × (hi < 64) × (lo ≤ hi)
IsReady values cells parts (Cell base i) = SlotIn values i × (base + slot_value values i < length cells)

-- The array after some steps, each with the place of its number.
abbrev pub settled : (cells : List ℕ) → List Part → List (ℕ × Step) → List ℕ → List ℕ
settled cells parts [] values = values
settled cells parts (p ∷ ps) values = settled cells parts ps (slice_set values p.0 (step_value values cells parts p.1))

-- Each step of a list can be taken after those before it.
abbrev pub AreReady : (cells : List ℕ) → List Part → List (ℕ × Step) → List ℕ → Type 0
AreReady cells parts [] values = Unit {0}
AreReady cells parts (p ∷ ps) values =
    (p.0 < length values) × IsReady values cells parts p.1
    × AreReady cells parts ps (slice_set values p.0 (step_value values cells parts p.1))

-- The array with other numbers at a place.
abbrev pub copied : (place : ℕ) → List ℕ → List ℕ → List ℕ
copied k xs values = take k values ++ (xs ++ drop (k + length xs) values)

-- The cells after a write.
abbrev pub stored_one : (values : List ℕ) → WritePort → List ℕ → List ℕ
stored_one values p cells =
    if slot_value values p.enable == 1 then slice_set cells (p.base + slot_value values p.index)
    (slot_value values p.value) else cells

-- The cells after all write ports have written.
abbrev pub stored : (values : List ℕ) → List WritePort → List ℕ → List ℕ
stored values [] cells = cells
stored values (p ∷ ps) cells = stored values ps (stored_one values p cells)

-- A write port's slots and its cell are there.
abbrev pub IsPortReady : (values : List ℕ) → WritePort → List ℕ → Type 0
IsPortReady values p cells =
    SlotIn values p.enable × SlotIn values p.index × SlotIn values p.value
    × (p.base + slot_value values p.index < length cells)

-- Each write port of a list can write after those before it.
abbrev pub ArePortsReady : (values : List ℕ) → List WritePort → List ℕ → Type 0
ArePortsReady values [] cells = Unit {0}
ArePortsReady values (p ∷ ps) cells = IsPortReady values p cells × ArePortsReady values ps (stored_one values p cells)
