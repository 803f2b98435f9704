-- What it is that slots, parts, steps and write ports stand for operands, wires and memories.
use Rattle.std.specs.Prelude.{◌≡◌, ℕ, ◌+◌, List, [], ◌∷◌, ◌++◌, map, Some, length, take, slice_get}
use Rattle.sap_maps.specs.Maps.{Name, Valuation}
use Rattle.sap_net.specs.declared.parts.Operand.{Operand}
use Rattle.sap_net.specs.declared.parts.Operand.TheVariants.{Named, Constant}
use Rattle.sap_net.specs.declared.parts.Right.{Right}
use Rattle.sap_net.specs.declared.parts.Right.TheVariants as right
use Rattle.sap_net.specs.declared.parts.Wire.{Wire}
use Rattle.sap_net.specs.declared.parts.Register.{Register}
use Rattle.sap_net.specs.declared.parts.Memory.{Memory}
use Rattle.sap_net.specs.Values.{operand_width}
use Rattle.sap_cycle.specs.declared.steps.Slot.{Slot}
use Rattle.sap_cycle.specs.declared.steps.Slot.TheVariants.{At, Number}
use Rattle.sap_cycle.specs.declared.steps.Part.{Part}
use Rattle.sap_cycle.specs.declared.steps.Step.{Step}
use Rattle.sap_cycle.specs.declared.steps.Step.TheVariants.{Copy, One, Two, Choose, Concat, Pair, Slice, Cell}
use Rattle.sap_cycle.specs.declared.steps.WritePort.{WritePort}

-- `names` has the name of each place.
abbrev pub SlotMeans : (names : List Name) → Slot → Operand → Type 0
SlotMeans names (At k) (Named x) = slice_get names k ≡ Some x
SlotMeans names (Number n) (Constant w m) = n ≡ m
SlotMeans names _ _ = ⊥

-- The parts stand for the operands of a concatenation, one for one.
abbrev pub PartsMean : (widths : Name → ℕ) → (names : List Name) → List Part → List Operand → Type 0
PartsMean widths names [] [] = Unit {0}
PartsMean widths names (p ∷ ps) (o ∷ os) =
    SlotMeans names p.slot o × (p.width ≡ operand_width widths o) × PartsMean widths names ps os
PartsMean widths names _ _ = ⊥

-- The parts from one place up to another mean these operands.
pub record RangeMeans (widths : Name → ℕ) (names : List Name) (parts : List Part) (from to : ℕ)
    (os : List Operand) : Type 0 where
  pub before : List Part
  pub range : List Part
  pub behind : List Part
  pub whole : parts ≡ before ++ (range ++ behind)
  pub from_is : from ≡ length before
  pub to_is : to ≡ from + length range
  pub mean : PartsMean widths names range os

-- Two slots mean two operands, of which the second has this width.
abbrev pub PairMeans : (widths : Name → ℕ) → (names : List Name) → (width : ℕ) → Slot → Slot → List Operand → Type 0
PairMeans widths names w s t (a ∷ (b ∷ [])) = SlotMeans names s a × SlotMeans names t b × (w ≡ operand_width widths b)
PairMeans widths names w s t _ = ⊥

-- How many cells memories have.
abbrev pub cell_count : List Memory → ℕ
cell_count [] = 0
cell_count (m ∷ ms) = m.depth + cell_count ms

-- Among the cells of these memories those of this memory begin at base.
pub record BeginsAt (ms : List Memory) (x : Name) (base : ℕ) : Type 0 where
  pub before : List Memory
  pub memory : Memory
  pub behind : List Memory
  pub whole : ms ≡ before ++ memory ∷ behind
  pub named : memory.name ≡ x
  pub base_is : base ≡ cell_count before

-- A step stands for a right side.
abbrev pub StepMeans : (widths : Name → ℕ) → List Memory → List Part → (names : List Name) → Step → Right → Type 0
StepMeans widths ms parts names (Copy s) (right.Copy a) = SlotMeans names s a
StepMeans widths ms parts names (One op w s) (right.One o a) =
    (op ≡ o) × (w ≡ operand_width widths a) × SlotMeans names s a
StepMeans widths ms parts names (Two op w s t) (right.Two o a b) =
    (op ≡ o) × (w ≡ operand_width widths a) × SlotMeans names s a × SlotMeans names t b
StepMeans widths ms parts names (Choose q s t) (right.Choose c a b) =
    SlotMeans names q c × SlotMeans names s a × SlotMeans names t b
StepMeans widths ms parts names (Concat from to) (right.Concat os) = RangeMeans widths names parts from to os
StepMeans widths ms parts names (Pair w s t) (right.Concat os) = PairMeans widths names w s t os
StepMeans widths ms parts names (Slice s hi lo) (right.Slice x h l) = SlotMeans names s (Named x) × (hi ≡ h) × (lo ≡ l)
StepMeans widths ms parts names (Cell base s) (right.Cell m i) = BeginsAt ms m base × SlotMeans names s i
StepMeans widths ms parts names _ _ = ⊥

-- Each wire's number has the next place.
abbrev pub StepsMean : (widths : Name → ℕ) → List Memory → List Part → (names : List Name) → List Step
    → List Wire → Type 0
StepsMean widths ms parts names [] [] = Unit {0}
StepsMean widths ms parts names (s ∷ ss) (w ∷ ws) =
    StepMeans widths ms parts names s w.right × StepsMean widths ms parts (names ++ w.name ∷ []) ss ws
StepsMean widths ms parts names _ _ = ⊥

-- The slots stand for the registers' next operands, one for one.
abbrev pub NextsMean : (names : List Name) → List Slot → List Register → Type 0
NextsMean names [] [] = Unit {0}
NextsMean names (s ∷ ss) (r ∷ rs) = SlotMeans names s r.next × NextsMean names ss rs
NextsMean names _ _ = ⊥

-- A write port stands for a memory whose cells begin at a base.
abbrev pub PortMeans : (names : List Name) → (base : ℕ) → WritePort → Memory → Type 0
PortMeans names base p m =
    (p.base ≡ base) × SlotMeans names p.enable m.enable × SlotMeans names p.index m.index
    × SlotMeans names p.value m.value

-- The write ports stand for the memories, whose cells stand one behind the other.
abbrev pub PortsMean : (names : List Name) → (base : ℕ) → List WritePort → List Memory → Type 0
PortsMean names base [] [] = Unit {0}
PortsMean names base (p ∷ ps) (m ∷ ms) = PortMeans names base p m × PortsMean names (base + m.depth) ps ms
PortsMean names base _ _ = ⊥

-- The array of values has the names' numbers.
abbrev pub Matches : Valuation → (names : List Name) → (values : List ℕ) → Type 0
Matches v names values = take (length names) values ≡ map v.value names
