-- The arithmetic of each operator, on numbers below 2 to the width w.
use Rattle.std.specs.Prelude.{ℕ, ◌+◌, ◌-◌, ◌*◌, ◌/◌, ◌%◌, ◌^◌, ◌<◌, ◌==◌, nat_lt, nat_le, if◌then◌else◌, bit_and, bit_or, bit_xor, count_ones}
use Rattle.sap_bits.specs.declared.Op1.{Op1}
use Rattle.sap_bits.specs.declared.Op1.TheVariants.{Not, Neg, AllOnes, AnyOne, Odd}
use Rattle.sap_bits.specs.declared.Op2.{Op2}
use Rattle.sap_bits.specs.declared.Op2.TheVariants.{Add, Sub, Mul, And, Or, Xor, Eq, Ne, Lt, Le, Shl, Shr}

-- The result of a unary operator on a number `a` of `w` bits.
abbrev pub value1 : Op1 → (w a : ℕ) → ℕ
value1 Not w a = 2 ^ w - 1 - a
value1 Neg w a = (2 ^ w - a) % 2 ^ w
value1 AllOnes w a = if a == 2 ^ w - 1 then 1 else 0
value1 AnyOne w a = if a == 0 then 0 else 1
value1 Odd w a = count_ones a % 2

-- The result of a binary operator on numbers of `w` bits. The count `b` of a shift may be any number: by `w` or more
-- the result is 0.
abbrev pub value2 : Op2 → (w a b : ℕ) → ℕ
value2 Add w a b = (a + b) % 2 ^ w
value2 Sub w a b = (2 ^ w + a - b) % 2 ^ w
value2 Mul w a b = (a * b) % 2 ^ w
value2 And w a b = bit_and a b
value2 Or w a b = bit_or a b
value2 Xor w a b = bit_xor a b
value2 Eq w a b = if a == b then 1 else 0
value2 Ne w a b = if a == b then 0 else 1
value2 Lt w a b = if nat_lt a b then 1 else 0
value2 Le w a b = if nat_le a b then 1 else 0
value2 Shl w a b = (a * 2 ^ b) % 2 ^ w
value2 Shr w a b = a / 2 ^ b

-- The bits of `a` from `lo` up to `hi`, as a number.
abbrev pub slice_of : (a hi lo : ℕ) → ℕ
slice_of a hi lo = a / 2 ^ lo % 2 ^ (hi + 1 - lo)

-- The number `a` stands in front of `b`, which has `wb` bits.
abbrev pub joined : (a wb b : ℕ) → ℕ
joined a wb b = a * 2 ^ wb + b

-- What an operator asks of its second number: a shift takes any count.
abbrev pub RightFits : Op2 → (w b : ℕ) → Type 0
RightFits Shl w b = Unit {0}
RightFits Shr w b = Unit {0}
RightFits _ w b = b < 2 ^ w

-- `width1` is the width of what an operator gives, on numbers of width w.
abbrev pub width1 : Op1 → ℕ → ℕ
width1 Not w = w
width1 Neg w = w
width1 _ w = 1

-- The width of the result of a binary operator whose left operand has this width.
abbrev pub width2 : Op2 → ℕ → ℕ
width2 Eq w = 1
width2 Ne w = 1
width2 Lt w = 1
width2 Le w = 1
width2 _ w = w
