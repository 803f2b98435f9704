-- The wires of what is written to a memory, and of the condition of the write. A cell that is written as it was isn't
-- written.
use Rattle.std.specs.Prelude.{◌&&◌, Bool, true, false, List, Option, Some, None, bytes_eq}
use Rattle.sap_maps.specs.Maps.{Name}
use Rattle.sap_maps.specs.Term.{Term, choose}
use Rattle.sap_net.specs.Rules.{Shapes}
use Rattle.sap_net.specs.declared.parts.Operand.{Operand}
use Rattle.sap_net.specs.declared.parts.Operand.TheVariants.{Named, Constant}
use Rattle.sap_net.specs.declared.parts.Right.{Right}
use Rattle.sap_net.specs.declared.parts.Right.TheVariants.{Choose, Cell}
use Rattle.sap_net.specs.declared.parts.Wire.{Wire}
use Rattle.sap_fold.specs.Folding.{same_operand}
use Rattle.sap_lower.specs.declared.parts.Part.{Part}
use Rattle.sap_lower.specs.declared.writes.Write.{Write}
use Rattle.sap_lower.specs.Facts.{right_of}
use Rattle.sap_lower.specs.Lowering.{plus, calculated, low}

-- The condition of a choice, and its two numbers, if the term is one.
abbrev pub choice_in : Term Name → Option (Term Name × Term Name × Term Name)
choice_in (choose c a b) = Some (c, a, b)
choice_in _ = None

-- The right side is this cell of the memory.
abbrev pub is_cell : (memory : Name) → (index : Operand) → Option Right → Bool
is_cell m i (Some (Cell n j)) = bytes_eq n m && same_operand j i
is_cell m i _ = false

-- The operand is this cell of the memory, by the right side of its wire.
abbrev pub reads_cell : List Wire → (memory : Name) → (index : Operand) → Operand → Bool
reads_cell ws m i (Named n) = is_cell m i (right_of ws n)
reads_cell ws m i (Constant w x) = false

-- Wires, and a write that they make.
pub record LowWrite : Type 0 where
  pub wires : List Wire
  pub write : Write

-- A write of a choice under a condition. Where its first number is the cell as it was, only the second is written, and
-- only if the test is 0.
abbrev pub spared : (keeps : Bool) → (when test : Operand) → (first second : Part) → List Wire → LowWrite
spared true c t a b ws =
    let e = plus ws 1 (Choose t (Constant 1 0) c) in
    record { wires = e.wires; write = record { when = e.part.operand; value = b.operand } }
spared false c t a b ws =
    let x = calculated ws a.width (Choose t a.operand b.operand) in
    record { wires = x.wires; write = record { when = c; value = x.part.operand } }

-- The wires of a write of a choice between two terms.
abbrev pub low_choice : Shapes → List (Name × Part) → Name → (when index : Operand)
    → (test first second : Term Name) → List Wire → LowWrite
low_choice ms es m c i t a b ws =
    let z = low ms es t ws in
    let x = low ms es a z.wires in
    let y = low ms es b x.wires in
    spared (reads_cell y.wires m i x.part.operand) c z.part.operand x.part y.part y.wires

-- The wires of a write of a term, which may be a choice.
abbrev pub low_value : Shapes → List (Name × Part) → Name → (when index : Operand) → Term Name
    → Option (Term Name × Term Name × Term Name) → List Wire → LowWrite
low_value ms es m c i t None ws =
    let x = low ms es t ws in record { wires = x.wires; write = record { when = c; value = x.part.operand } }
low_value ms es m c i t (Some d) ws = low_choice ms es m c i d.0 d.1 d.2 ws

-- The wires of a write of a term to a cell, under a condition.
abbrev pub low_write : Shapes → List (Name × Part) → Name → (when index : Operand) → Term Name → List Wire → LowWrite
low_write ms es m c i t ws = low_value ms es m c i t (choice_in t) ws
