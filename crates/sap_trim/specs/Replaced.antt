-- Right sides with other operands in place of the names that they read.
use Rattle.std.specs.Prelude.{Option, unwrap_or, map}
use Rattle.sap_maps.specs.Maps.{Name}
use Rattle.sap_net.specs.declared.parts.Operand.{Operand}
use Rattle.sap_net.specs.declared.parts.Operand.TheVariants.{Named, Constant}
use Rattle.sap_net.specs.declared.parts.Right.{Right}
use Rattle.sap_net.specs.declared.parts.Right.TheVariants.{Copy, One, Two, Choose, Concat, Slice, Cell}
use Rattle.sap_fold.specs.Slices.{sliced}

-- What each name stands for.
abbrev pub Stands : Type 0
Stands = Name → Option Operand

-- What stands for a name.
abbrev pub standing : Stands → Name → Operand
standing e x = unwrap_or (e x) (Constant 0 0)

-- What stands for an operand: a constant stands for itself.
abbrev pub standing_operand : Stands → Operand → Operand
standing_operand e (Named x) = standing e x
standing_operand e (Constant w n) = Constant w n

-- A right side with each operand replaced by what stands for it.
abbrev pub replaced : Stands → Right → Right
replaced e (Copy a) = Copy (standing_operand e a)
replaced e (One op a) = One op (standing_operand e a)
replaced e (Two op a b) = Two op (standing_operand e a) (standing_operand e b)
replaced e (Choose c a b) = Choose (standing_operand e c) (standing_operand e a) (standing_operand e b)
replaced e (Concat os) = Concat (map (standing_operand e) os)
replaced e (Slice x hi lo) = sliced (standing e x) hi lo
replaced e (Cell m i) = Cell m (standing_operand e i)
