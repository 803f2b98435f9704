-- Parts of concatenations.
use Rattle.std.specs.Prelude.{◌≡◌, ◌⊎◌, ℕ, ◌+◌, ◌-◌, ◌/◌, ◌%◌, ◌^◌, ◌<◌, ◌≤◌, ◌==◌, Bool, true, false, Option, Some, None, List, [], ◌∷◌, ◌++◌, if◌then◌else◌}
use Rattle.sap_bits.specs.Arithmetic.{joined}
use Rattle.sap_maps.specs.Maps.{Name, Valuation}
use Rattle.sap_maps.specs.Scope.{Scope}
use Rattle.sap_net.specs.Rules.{IsOperand, AreOperands}
use Rattle.sap_net.specs.Values.{operand_value, operands_value, WidthsAre}
use Rattle.sap_net.specs.declared.parts.Operand.{Operand}
use Rattle.sap_net.specs.declared.parts.Operand.TheVariants.{Named, Constant}
use Rattle.sap_fold.specs.Folding.{same_operand}
use Rattle.sap_fold.specs.Under.{bit}

-- `o` is the number a in front of the number b.
pub record Glues (a b o : Operand) : Type 0 where
  pub u : ℕ
  pub m : ℕ
  pub t : ℕ
  pub n : ℕ
  pub first : a ≡ Constant u m
  pub second : b ≡ Constant t n
  pub both : o ≡ Constant (u + t) (joined m t n)
  pub narrow : u + t ≤ 64

-- The last of the operands and one more are one operand.
pub record GluesLast (xs : List Operand) (p : Operand) (ys : List Operand) : Type 0 where
  pub init : List Operand
  pub last : Operand
  pub before : xs ≡ init ++ last ∷ []
  pub both : Operand
  pub glues : Glues last p both
  pub after : ys ≡ init ++ both ∷ []

-- `p` stands behind xs, or is part of the last one.
abbrev pub AddsPart : (xs : List Operand) → Operand → (ys : List Operand) → Type 0
AddsPart xs p ys = (ys ≡ xs ++ p ∷ []) ⊎ GluesLast xs p ys

-- The operand o, or the value of the bit c, if it is that.
abbrev pub put : (c : Operand) → Bool → Operand → Operand
put c t o = if same_operand o c then bit t else o

-- Where the bit c has the number n, the parts ps have the value of os together.
pub record SameParts (c : Operand) (n : ℕ) (os ps : List Operand) : Type 0 where
  pub fits : (sc : Scope) (w : ℕ) → IsOperand sc 1 c → AreOperands sc w os → AreOperands sc w ps
  pub same : (sc : Scope) (widths : Name → ℕ) (v : Valuation) (w : ℕ) → WidthsAre sc widths
      → IsOperand sc 1 c → AreOperands sc w os
      → operand_value v c ≡ n → operands_value widths v os ≡ operands_value widths v ps

-- They are the one operand p.
abbrev pub Whole : (c : Operand) (n : ℕ) → List Operand → Operand → Type 0
Whole c n os p = SameParts c n os (p ∷ [])

-- The bit between two bits a and b, by a bit c.
abbrev pub between : (c : Operand) → (a b : Bool) → Option Operand
between c true true = Some (bit true)
between c false false = Some (bit false)
between c true false = Some c
between c false true = None

-- The number of a constant.
abbrev pub number_in : Operand → Option ℕ
number_in (Named x) = None
number_in (Constant w n) = Some n

-- The bit of a number at a place is 1.
abbrev pub bit_test : (n place : ℕ) → Bool
bit_test n place = n / 2 ^ place % 2 == 1

-- The parts have the bits from k up to w of a where the bit c is 1, and of b where it is 0.
pub record Between (c : Operand) (k w a b : ℕ) (ps : List Operand) : Type 0 where
  pub fits : (sc : Scope) → IsOperand sc 1 c → AreOperands sc (w - k) ps
  pub same : (sc : Scope) (widths : Name → ℕ) (v : Valuation) → WidthsAre sc widths → IsOperand sc 1 c
      → operand_value v c < 2 ^ 1
      → a < 2 ^ w → b < 2 ^ w → operands_value widths v ps ≡ (if operand_value v c == 0 then b / 2 ^ k else a / 2 ^ k)
