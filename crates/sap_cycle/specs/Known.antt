-- What is known of names while a netlist is loaded, and the steps that are made of it.
use Rattle.std.specs.Prelude.{◌≡◌, ℕ, ◌+◌, ◌<◌, List, [], ◌∷◌, ◌++◌, Some, length, map, replicate, slice_index, unwrap_or}
use Rattle.std.specs.List.{AllByRecursion, flat_map}
use Rattle.sap_maps.specs.Maps.{Name}
use Rattle.sap_net.specs.declared.parts.Operand.{Operand}
use Rattle.sap_net.specs.declared.parts.Operand.TheVariants.{Named, Constant}
use Rattle.sap_net.specs.declared.parts.Right.{Right}
use Rattle.sap_net.specs.declared.parts.Right.TheVariants as right
use Rattle.sap_net.specs.declared.parts.Memory.{Memory}
use Rattle.sap_cycle.specs.declared.known.Known.{Known}
use Rattle.sap_cycle.specs.declared.steps.Slot.{Slot}
use Rattle.sap_cycle.specs.declared.steps.Slot.TheVariants.{At, Number}
use Rattle.sap_cycle.specs.declared.steps.Part.{Part}
use Rattle.sap_cycle.specs.declared.steps.Step.{Step}
use Rattle.sap_cycle.specs.declared.steps.Step.TheVariants.{Copy, One, Two, Choose, Concat, Pair, Slice, Cell}
use Rattle.sap_net.specs.Net.{Net}
use Rattle.sap_net.specs.NameMaps.{at_name, NameMap}
use Rattle.sap_cycle.specs.declared.steps.WritePort.{WritePort}
use Rattle.sap_cycle.specs.Places.{Finds}
use Rattle.sap_cycle.specs.Loaded.{bases_of}

-- The names, each with its width, and the memories.
pub record Knows (widths : Name → ℕ) (ms : List Memory) (names : List Name) (k : Known) : Type 0 where
  pub places : Finds k.places names
  pub widths_are : k.widths.items ≡ map widths names
  pub memories : Finds k.memories (map (λ m. m.name) ms)
  pub bases : k.bases.items ≡ bases_of 0 ms

-- A name has a place, and the place has a width.
pub record IsKnown (k : Known) (x : Name) : Type 0 where
  pub place : ℕ
  pub found : at_name k.places x ≡ Some place
  pub within : place < length k.widths.items

-- A memory's name has a number, and the number has a base.
pub record IsKnownMemory (k : Known) (x : Name) : Type 0 where
  pub number : ℕ
  pub found : at_name k.memories x ≡ Some number
  pub within : number < length k.bases.items

-- An operand's name is known; a constant always is.
abbrev pub IsKnownOperand : Known → Operand → Type 0
IsKnownOperand k (Named x) = IsKnown k x
IsKnownOperand k (Constant w n) = Unit {0}

-- The names in a right side are known.
abbrev pub IsKnownRight : Known → Right → Type 0
IsKnownRight k (right.Copy a) = IsKnownOperand k a
IsKnownRight k (right.One op a) = IsKnownOperand k a
IsKnownRight k (right.Two op a b) = IsKnownOperand k a × IsKnownOperand k b
IsKnownRight k (right.Choose c a b) = IsKnownOperand k c × IsKnownOperand k a × IsKnownOperand k b
IsKnownRight k (right.Concat os) = AllByRecursion (IsKnownOperand k) os
IsKnownRight k (right.Slice x hi lo) = IsKnown k x
IsKnownRight k (right.Cell m i) = IsKnownMemory k m × IsKnownOperand k i

-- The slot of an operand.
abbrev pub slot_found : Known → Operand → Slot
slot_found k (Named x) = At (unwrap_or (at_name k.places x) 0)
slot_found k (Constant w n) = Number n

-- The width of an operand.
abbrev pub width_found : Known → Operand → ℕ
width_found k (Named x) = slice_index k.widths.items (unwrap_or (at_name k.places x) 0)
width_found k (Constant w n) = w

-- An operand as a part of a concatenation: its slot and its width.
abbrev pub part_found : Known → Operand → Part
part_found k o = record { slot = slot_found k o; width = width_found k o }

-- The base of a memory's cells.
abbrev pub base_found : Known → Name → ℕ
base_found k x = slice_index k.bases.items (unwrap_or (at_name k.memories x) 0)

-- The step of a concatenation of two operands.
abbrev pub pair_found : Known → Operand → Operand → Step
pair_found k a b = Pair (width_found k b) (slot_found k a) (slot_found k b)

-- The step of a concatenation whose parts, if it has any, stand from a place on.
abbrev pub concat_found : Known → (from : ℕ) → List Operand → Step
concat_found k from (a ∷ (b ∷ [])) = pair_found k a b
concat_found k from os = Concat from (from + length os)

-- The parts of a concatenation that are listed apart; a pair needs none.
abbrev pub concat_parts : Known → List Operand → List Part
concat_parts k (a ∷ (b ∷ [])) = []
concat_parts k os = map (part_found k) os

-- The step of a right side whose parts, if it has any, stand from a place on.
abbrev pub step_found : Known → (from : ℕ) → Right → Step
step_found k from (right.Copy a) = Copy (slot_found k a)
step_found k from (right.One op a) = One op (width_found k a) (slot_found k a)
step_found k from (right.Two op a b) = Two op (width_found k a) (slot_found k a) (slot_found k b)
step_found k from (right.Choose c a b) = Choose (slot_found k c) (slot_found k a) (slot_found k b)
step_found k from (right.Concat os) = concat_found k from os
step_found k from (right.Slice x hi lo) = Slice (At (unwrap_or (at_name k.places x) 0)) hi lo
step_found k from (right.Cell m i) = Cell (base_found k m) (slot_found k i)

-- The parts that a right side lists apart.
abbrev pub parts_found : Known → Right → List Part
parts_found k (right.Concat os) = concat_parts k os
parts_found k _ = []

-- The names in a memory's write port are known.
abbrev pub IsKnownPort : Known → Memory → Type 0
IsKnownPort k m = IsKnownOperand k m.enable × IsKnownOperand k m.index × IsKnownOperand k m.value

-- The write ports of memories whose cells stand behind some.
abbrev pub ports_found : Known → (behind : ℕ) → List Memory → List WritePort
ports_found k b [] = []
ports_found k b (m ∷ ms) =
    record {
      base = b;
      enable = slot_found k m.enable;
      index = slot_found k m.index;
      value = slot_found k m.value;
    } ∷ ports_found k (b + m.depth) ms

-- The names of the memories, where the cells of each begin, and what the cells are first.
pub record AreStored (ms : List Memory) (numbers : NameMap ℕ) (bases : List ℕ) (cells : List ℕ) : Type 0 where
  pub found : Finds numbers (map (λ m. m.name) ms)
  pub bases_are : bases ≡ bases_of 0 ms
  pub cells_are : cells ≡ flat_map (λ m. replicate m.depth m.start) ms

-- What inputs, registers and wires have first.
abbrev pub first_numbers : Net → List ℕ
first_numbers n = replicate (length n.inputs) 0 ++ (map (λ r. r.start) n.registers ++ replicate (length n.wires) 0)
