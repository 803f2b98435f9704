-- The steps that instructions are.
use Rattle.std.specs.Prelude.{◌≡◌, ◌<◌, ℕ, List, slice_get, unwrap_or}
use Rattle.sap_bits.specs.declared.Op1.TheVariants.{Not}
use Rattle.sap_bits.specs.declared.Op2.TheVariants.{Add, Sub, And, Or, Xor, Eq, Ne, Lt}
use Rattle.sap_cycle.specs.declared.steps.Slot.TheVariants.{At, Number}
use Rattle.sap_cycle.specs.declared.steps.Step.{Step}
use Rattle.sap_cycle.specs.declared.steps.Step.TheVariants.{Copy, One, Two, Choose, Concat, Pair, Slice}
use Rattle.sap_cycle.specs.declared.instructions.Instruction.{Instruction}
use Rattle.sap_cycle.specs.declared.instructions.Placed.{Placed}
use Rattle.sap_cycle.specs.declared.instructions.Instruction.TheVariants as instruction

-- The step at a place, and that which gives 0 behind the last.
abbrev pub step_at : List Step → (place : ℕ) → Step
step_at others k = unwrap_or (slice_get others k) (Copy (Number 0))

-- The step of an instruction; those that have no other instruction stand in a list.
abbrev pub step_of_instruction : (others : List Step) → Instruction → Step
step_of_instruction others (instruction.Number x) = Copy (Number x)
step_of_instruction others (instruction.Copy a) = Copy (At a)
step_of_instruction others (instruction.Not w a) = One Not w (At a)
step_of_instruction others (instruction.Add w a b) = Two Add w (At a) (At b)
step_of_instruction others (instruction.Sub w a b) = Two Sub w (At a) (At b)
step_of_instruction others (instruction.And w a b) = Two And w (At a) (At b)
step_of_instruction others (instruction.Or w a b) = Two Or w (At a) (At b)
step_of_instruction others (instruction.Xor w a b) = Two Xor w (At a) (At b)
step_of_instruction others (instruction.Eq w a b) = Two Eq w (At a) (At b)
step_of_instruction others (instruction.Ne w a b) = Two Ne w (At a) (At b)
step_of_instruction others (instruction.Lt w a b) = Two Lt w (At a) (At b)
step_of_instruction others (instruction.EqNumber w a n) = Two Eq w (At a) (Number n)
step_of_instruction others (instruction.Choose c a b) = Choose (At c) (At a) (At b)
step_of_instruction others (instruction.Concat from to) = Concat from to
step_of_instruction others (instruction.Pair w a b) = Pair w (At a) (At b)
step_of_instruction others (instruction.Slice a hi lo) = Slice (At a) hi lo
step_of_instruction others (instruction.Other k) = step_at others k

-- The place of an instruction's number, and its step.
abbrev pub placed_step : (others : List Step) → Placed → ℕ × Step
placed_step others p = (p.target, step_of_instruction others p.instruction)

-- The place that an instruction names in the list, if any, is below a length.
abbrev pub IsWithin : (count : ℕ) → Instruction → Type 0
IsWithin count (instruction.Other k) = k < count
IsWithin count _ = Unit {0}

-- It is the step, whatever the list.
abbrev pub StandsFor : Step → Instruction → Type 0
StandsFor s i = (others : List Step) → (step_of_instruction others i ≡ s) × IsWithin 0 i
