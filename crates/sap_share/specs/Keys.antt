-- Bytes that tell the right side of a wire, and its width, from every other.
use Rattle.std.specs.Prelude.{ℕ, zero, suc, ◌+◌, ◌/◌, ◌%◌, List, [], ◌∷◌, ◌++◌, length, nat_lt, if◌then◌else◌, flat_map}
use Rattle.sap_bits.specs.declared.Op1.{Op1}
use Rattle.sap_bits.specs.declared.Op1.TheVariants.{Not, Neg, AllOnes, AnyOne, Odd}
use Rattle.sap_bits.specs.declared.Op2.{Op2}
use Rattle.sap_bits.specs.declared.Op2.TheVariants.{Add, Sub, Mul, And, Or, Xor, Eq, Ne, Lt, Le, Shl, Shr}
use Rattle.sap_net.specs.declared.parts.Operand.{Operand}
use Rattle.sap_net.specs.declared.parts.Operand.TheVariants.{Named, Constant}
use Rattle.sap_net.specs.declared.parts.Right.{Right}
use Rattle.sap_net.specs.declared.parts.Right.TheVariants.{Copy, One, Two, Choose, Concat, Slice, Cell}

-- The number of an operator of one operand.
abbrev pub number1 : Op1 → ℕ
number1 Not = 0
number1 Neg = 1
number1 AllOnes = 2
number1 AnyOne = 3
number1 Odd = 4

-- The number of an operator of two operands.
abbrev pub number2 : Op2 → ℕ
number2 Add = 0
number2 Sub = 1
number2 Mul = 2
number2 And = 3
number2 Or = 4
number2 Xor = 5
number2 Eq = 6
number2 Ne = 7
number2 Lt = 8
number2 Le = 9
number2 Shl = 10
number2 Shr = 11

-- The digits of a number in base 128, the least first, 128 added to each but the last; for a number of at most `most`.
abbrev pub digits : (most n : ℕ) → List ℕ
digits zero n = n ∷ []
digits (suc most) n = if nat_lt n 128 then n ∷ [] else (128 + n % 128) ∷ digits most (n / 128)

-- The bytes of a number.
unfoldable pub number : ℕ → List ℕ
number n = digits n n

-- A name with its length in front, or a number with its width.
abbrev pub operand_bytes : Operand → List ℕ
operand_bytes (Named x) = 0 ∷ number (length x) ++ x
operand_bytes (Constant w n) = 1 ∷ number w ++ number n

-- The bytes of operands, one behind the other.
abbrev pub operands_bytes : List Operand → List ℕ
operands_bytes os = flat_map operand_bytes os

-- The bytes of a right side: different right sides of one width have different bytes.
abbrev pub right_bytes : Right → List ℕ
right_bytes (Copy a) = 0 ∷ operand_bytes a
right_bytes (One op a) = 1 ∷ number1 op ∷ operand_bytes a
right_bytes (Two op a b) = 2 ∷ number2 op ∷ operand_bytes a ++ operand_bytes b
right_bytes (Choose c a b) = 3 ∷ operand_bytes c ++ (operand_bytes a ++ operand_bytes b)
right_bytes (Concat os) = 4 ∷ number (length os) ++ operands_bytes os
right_bytes (Slice x hi lo) = 5 ∷ number hi ++ (number lo ++ x)
right_bytes (Cell m i) = 6 ∷ operand_bytes i ++ m

-- The key under which a right side of a width is kept.
unfoldable pub key : (width : ℕ) → Right → List ℕ
key w r = number w ++ right_bytes r
