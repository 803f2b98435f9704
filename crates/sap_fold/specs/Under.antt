-- What operands are where a bit is known.
use Rattle.std.specs.Prelude.{◌≡◌, ℕ, Bool, true, false, not, ◌&&◌, List, Option, Some, None, if◌then◌else◌}
use Rattle.sap_bits.specs.declared.Op1.TheVariants.{Not}
use Rattle.sap_bits.specs.declared.Op2.{Op2}
use Rattle.sap_bits.specs.declared.Op2.TheVariants.{And, Or}
use Rattle.sap_maps.specs.Maps.{Name, Valuation}
use Rattle.sap_maps.specs.Scope.{Scope}
use Rattle.sap_net.specs.Rules.{Shapes, IsOperand, IsRight, AreWires, readable_after}
use Rattle.sap_net.specs.Values.{operand_value, right_value}
use Rattle.sap_net.specs.declared.parts.Operand.{Operand}
use Rattle.sap_net.specs.declared.parts.Operand.TheVariants.{Constant}
use Rattle.sap_net.specs.declared.parts.Right.{Right}
use Rattle.sap_net.specs.declared.parts.Right.TheVariants.{Copy, One, Two, Choose}
use Rattle.sap_net.specs.declared.parts.Wire.{Wire}
use Rattle.sap_fold.specs.Equals.{Over}
use Rattle.sap_fold.specs.Folding.{same_operand, is_number}

-- The number of a bit.
abbrev pub number : Bool → ℕ
number true = 1
number false = 0

-- The constant of one bit for a truth value.
abbrev pub bit : Bool → Operand
bit t = Constant 1 (number t)

-- The other one of two operands, if one of them is c.
abbrev pub other : (c a b : Operand) → Option Operand
other c a b = if same_operand a c then Some b else if same_operand b c then Some a else None

-- A choice by d, where c has the value t.
abbrev pub chosen : (c : Operand) → (t : Bool) → (d a b : Operand) → Option Operand
chosen c t d a b = if same_operand d c then Some (if t then a else b) else None

-- The value t, where it decides, else the other operand.
abbrev pub decided : (t decides : Bool) → Option Operand → Option Operand
decided t d None = None
decided t d (Some o) = Some (if d then bit t else o)

-- What a right side is where the bit c has the value t, if c is among its operands: `&` with 0 is 0, `&` with 1 the
-- other operand, and so on.
abbrev pub right_under : (c : Operand) → (t : Bool) → Right → Option Operand
right_under c t (Choose d a b) = chosen c t d a b
right_under c t (Two And a b) = decided t (not t) (other c a b)
right_under c t (Two Or a b) = decided t t (other c a b)
right_under c t _ = None

-- An operator of one bit has the value t only where both operands have it.
abbrev pub tells : Op2 → Bool → Bool
tells And t = t
tells Or t = not t
tells _ t = false

-- A choice between the bits a and b has the value t only by b, as a is 0; only by a, as b is 1.
abbrev pub only_second : (t : Bool) → (a : Operand) → Bool
only_second t a = t && is_number a 0

-- A choice whose second number is 0 (for a condition that is false: 1) asks the first alone.
abbrev pub only_first : (t : Bool) → (b : Operand) → Bool
only_first t b = not t && is_number b 1

-- The operator is the conjunction.
abbrev pub is_and : Op2 → Bool
is_and And = true
is_and _ = false

-- The operator is the conjunction or the disjunction.
abbrev pub IsBitwise : Op2 → Type 0
IsBitwise And = Unit {0}
IsBitwise Or = Unit {0}
IsBitwise _ = ⊥

-- `&` of a, the negation of a bit d, and another operand b, as a choice by d; `|` of them.
abbrev pub chosen_by : Op2 → (a d b : Operand) → Right
chosen_by And a d b = Choose d (bit false) b
chosen_by op a d b = Two op a b

-- A choice between 0 and c.
abbrev pub is_masked : (c a b : Operand) → Bool
is_masked c a b = is_number a 0 && same_operand b c

-- What a choice by d between 0 and c is, where c has the value t.
abbrev pub masked_right : (t : Bool) → (d : Operand) → Right
masked_right true d = One Not d
masked_right false d = Copy (bit false)

-- Where the bit c has the number n, the operand a has the value of r.
pub record Under (ws : List Wire) (c : Operand) (n : ℕ) (a : Operand) (r : Right) : Type 0 where
  pub fits : (memories : Shapes) (sc : Scope) (u : ℕ) → AreWires memories sc ws → IsOperand (readable_after sc ws) 1 c
      → IsOperand (readable_after sc ws) u a → IsRight memories (readable_after sc ws) u r
  pub same : (memories : Shapes) (sc : Scope) (widths : Name → ℕ) (v : Valuation) (u : ℕ) → Over memories sc ws widths v
      → IsOperand (readable_after sc ws) 1 c → IsOperand (readable_after sc ws) u a
      → operand_value v c ≡ n → operand_value v a ≡ right_value widths v r
