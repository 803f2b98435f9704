-- `&` and `|` of an operand with what reads it.
use Rattle.std.specs.Prelude.{Bool, ℕ, List, ◌&&◌, ◌||◌, if◌then◌else◌}
use Rattle.sap_bits.specs.declared.Op2.{Op2}
use Rattle.sap_bits.specs.declared.Op2.TheVariants.{And, Or}
use Rattle.sap_net.specs.declared.parts.Operand.{Operand}
use Rattle.sap_net.specs.declared.parts.Right.{Right}
use Rattle.sap_net.specs.declared.parts.Right.TheVariants.{Copy, Two, Choose}
use Rattle.sap_net.specs.declared.parts.Wire.{Wire}
use Rattle.sap_fold.specs.Equals.{Equals}
use Rattle.sap_fold.specs.Folding.{same_operand, is_number}
use Rattle.sap_fold.specs.declared.rules.Outcome.{Outcome}
use Rattle.sap_fold.specs.declared.rules.Outcome.TheVariants.{Keep, First, Second}

-- The operand is one of the two.
abbrev pub is_one_of : (o a b : Operand) → Bool
is_one_of o a b = same_operand a o || same_operand b o

-- One of two operands is o, and the other 0.
abbrev pub is_or_zero : (o a b : Operand) → Bool
is_or_zero o a b = same_operand a o && is_number b 0 || same_operand b o && is_number a 0

-- `x` & o, where x has the right side r: x for x = o & y, and o for x = o | y.
abbrev pub absorbed_and : Right → Operand → Outcome
absorbed_and (Two And a b) o = if is_one_of o a b then First else Keep
absorbed_and (Two Or a b) o = if is_one_of o a b then Second else Keep
absorbed_and r o = Keep

-- `x` | o, where x has the right side r: x for x = o | y, and o for x = o & y or a choice between o and 0.
abbrev pub absorbed_or : Right → Operand → Outcome
absorbed_or (Two Or a b) o = if is_one_of o a b then First else Keep
absorbed_or (Two And a b) o = if is_one_of o a b then Second else Keep
absorbed_or (Choose c a b) o = if is_or_zero o a b then Second else Keep
absorbed_or r o = Keep

-- The operator on a and b is a or b, where the outcome says so.
abbrev pub Absorbs : List Wire → Op2 → (a b : Operand) → Outcome → Type 0
Absorbs ws op a b First = (u : ℕ) → Equals ws u (Two op a b) (Copy a)
Absorbs ws op a b Second = (u : ℕ) → Equals ws u (Two op a b) (Copy b)
Absorbs ws op a b _ = Unit {0}
