-- What operands and right sides are, over a number for each name and each cell.
use Rattle.std.specs.Prelude.{◌≡◌, ℕ, ◌+◌, ◌<◌, ◌^◌, ◌==◌, List, [], ◌∷◌, Some, if◌then◌else◌}
use Rattle.sap_bits.specs.Arithmetic.{value1, value2, slice_of, joined}
use Rattle.sap_maps.specs.Maps.{Name, Valuation}
use Rattle.sap_maps.specs.Scope.{Scope, find}
use Rattle.sap_net.specs.declared.parts.Operand.{Operand}
use Rattle.sap_net.specs.declared.parts.Operand.TheVariants.{Named, Constant}
use Rattle.sap_net.specs.declared.parts.Right.{Right}
use Rattle.sap_net.specs.declared.parts.Right.TheVariants.{Copy, One, Two, Choose, Concat, Slice, Cell}
use Rattle.sap_net.specs.declared.parts.Wire.{Wire}

-- The number of an operand: that of the name, or the constant's.
abbrev pub operand_value : Valuation → Operand → ℕ
operand_value v (Named x) = v.value x
operand_value v (Constant w n) = n

-- The width of an operand: that of the name, from `widths`, or the constant's.
abbrev pub operand_width : (widths : Name → ℕ) → Operand → ℕ
operand_width widths (Named x) = widths x
operand_width widths (Constant w n) = w

-- The sum of the operands' widths.
abbrev pub operands_width : (widths : Name → ℕ) → List Operand → ℕ
operands_width widths [] = 0
operands_width widths (o ∷ os) = operand_width widths o + operands_width widths os

-- The number of a concatenation: its first operand has the highest bits.
abbrev pub operands_value : (widths : Name → ℕ) → Valuation → List Operand → ℕ
operands_value widths v [] = 0
operands_value widths v (o ∷ os) = joined (operand_value v o) (operands_width widths os) (operands_value widths v os)

-- The number of a right side.
abbrev pub right_value : (widths : Name → ℕ) → Valuation → Right → ℕ
right_value widths v (Copy a) = operand_value v a
right_value widths v (One op a) = value1 op (operand_width widths a) (operand_value v a)
right_value widths v (Two op a b) = value2 op (operand_width widths a) (operand_value v a) (operand_value v b)
right_value widths v (Choose c a b) = if operand_value v c == 0 then operand_value v b else operand_value v a
right_value widths v (Concat os) = operands_value widths v os
right_value widths v (Slice x hi lo) = slice_of (v.value x) hi lo
right_value widths v (Cell m i) = v.cell m (operand_value v i)

-- Every `assign` equation holds.
abbrev pub Holds : (widths : Name → ℕ) → Valuation → List Wire → Type 0
Holds widths v [] = Unit {0}
Holds widths v (w ∷ ws) = (v.value w.name ≡ right_value widths v w.right) × Holds widths v ws

-- `widths` has the widths with which names are declared.
abbrev pub WidthsAre : Scope → (widths : Name → ℕ) → Type 0
WidthsAre sc widths = (n : Name) (u : ℕ) → find sc n ≡ Some u → widths n ≡ u

-- Each declared name has a number within its width.
abbrev pub ValuesBelow : Scope → Valuation → Type 0
ValuesBelow sc v = (n : Name) (u : ℕ) → find sc n ≡ Some u → v.value n < 2 ^ u
