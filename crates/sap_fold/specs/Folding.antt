-- The table of the rules by which right sides fold. A rule of each operator on two operands says when it is its first
-- or second operand, or a number; the first rule that fits counts.
use Rattle.std.specs.Prelude.{ℕ, ◌-◌, ◌^◌, ◌==◌, ◌&&◌, ◌||◌, nat_le, Bool, true, false, bytes_eq, if◌then◌else◌}
use Rattle.sap_bits.specs.Arithmetic.{value1, value2}
use Rattle.sap_bits.specs.declared.Op1.{Op1}
use Rattle.sap_bits.specs.declared.Op1.TheVariants.{Not}
use Rattle.sap_bits.specs.declared.Op2.{Op2}
use Rattle.sap_bits.specs.declared.Op2.TheVariants.{Add, Sub, Mul, And, Or, Xor, Eq, Ne, Lt, Le, Shl, Shr}
use Rattle.sap_net.specs.declared.parts.Operand.{Operand}
use Rattle.sap_net.specs.declared.parts.Operand.TheVariants.{Named, Constant}
use Rattle.sap_net.specs.declared.parts.Right.{Right}
use Rattle.sap_net.specs.declared.parts.Right.TheVariants.{Copy, One, Two, Choose}
use Rattle.sap_fold.specs.declared.rules.Outcome.{Outcome}
use Rattle.sap_fold.specs.declared.rules.Outcome.TheVariants.{Keep, Condition, First, Second, Number, NotCondition, NotFirst, NotSecond, ConditionAndFirst, ConditionOrSecond}

-- The first outcome that changes something.
abbrev pub or_else : Outcome → Outcome → Outcome
or_else Keep g = g
or_else f g = f

-- The operand is a constant of this number.
abbrev pub is_number : Operand → ℕ → Bool
is_number (Named x) n = false
is_number (Constant w m) n = m == n

-- The operand is a constant of width 1 and of this number.
abbrev pub is_bit : Operand → ℕ → Bool
is_bit (Named x) n = false
is_bit (Constant w m) n = w == 1 && m == n

-- `w` is a width from 1 to 64, and the number is within it.
abbrev pub fits : (w n : ℕ) → Bool
fits w n = nat_le 1 w && nat_le w 64 && nat_le n (2 ^ w - 1)

-- The operand is a constant whose bits are all 1.
abbrev pub is_full : Operand → Bool
is_full (Named x) = false
is_full (Constant w n) = fits w n && n == 2 ^ w - 1

-- The two operands are the same name or the same constant.
abbrev pub same_operand : Operand → Operand → Bool
same_operand (Named x) (Named y) = bytes_eq x y
same_operand (Constant w n) (Constant u m) = w == u && n == m
same_operand _ _ = false

-- What an operator of one operand gives: a number, if the operand is a constant.
abbrev pub fold_one : Op1 → Operand → Outcome
fold_one op (Named x) = Keep
fold_one op (Constant w n) = if fits w n then Number (value1 op w n) else Keep

-- The number fits the second operand of the operator.
abbrev pub is_second : Op2 → (w n : ℕ) → Bool
is_second Shl w n = true
is_second Shr w n = true
is_second _ w n = fits w n

-- What an operator of two operands gives: a number, if both are constants.
abbrev pub fold_constants : Op2 → Operand → Operand → Outcome
fold_constants op (Constant w n) (Constant u m) =
    if fits w n && is_second op w m then Number (value2 op w n m) else Keep
fold_constants op _ _ = Keep

-- What the conjunction of two operands is, where it is known.
abbrev pub fold_and : Operand → Operand → Outcome
fold_and a b =
    if is_number b 0 || is_full a then Second
    else if is_number a 0 || is_full b || same_operand a b then First else Keep

-- What the disjunction of two operands is, where it is known.
abbrev pub fold_or : Operand → Operand → Outcome
fold_or a b =
    if is_number b 0 || is_full a || same_operand a b then First
    else if is_number a 0 || is_full b then Second else Keep

-- What the exclusive disjunction of two operands is, where it is known.
abbrev pub fold_xor : Operand → Operand → Outcome
fold_xor a b =
    if is_number b 0 then First else if is_number a 0 then Second else if same_operand a b then Number 0 else Keep

-- What a sum is, where it is known.
abbrev pub fold_add : Operand → Operand → Outcome
fold_add a b = if is_number b 0 then First else if is_number a 0 then Second else Keep

-- What a difference is, where it is known.
abbrev pub fold_sub : Operand → Operand → Outcome
fold_sub a b = if is_number b 0 then First else if same_operand a b then Number 0 else Keep

-- What a product is, where it is known.
abbrev pub fold_mul : Operand → Operand → Outcome
fold_mul a b =
    if is_number b 0 || is_number a 1 then Second else if is_number a 0 || is_number b 1 then First else Keep

-- What `==` is, where it is known: of an operand with itself, and of a bit with a constant.
abbrev pub fold_equal : Operand → Operand → Outcome
fold_equal a b =
    if same_operand a b then Number 1 else if is_bit b 1 then First else if is_bit a 1 then Second
    else if is_bit b 0 then NotFirst else if is_bit a 0 then NotSecond else Keep

-- What `!=` is, where it is known: of an operand with itself, and of a bit with a constant.
abbrev pub fold_unequal : Operand → Operand → Outcome
fold_unequal a b =
    if same_operand a b then Number 0 else if is_bit b 0 then First else if is_bit a 0 then Second
    else if is_bit b 1 then NotFirst else if is_bit a 1 then NotSecond else Keep

-- What `<` is, where it is known: nothing is below 0, above all ones, or below itself.
abbrev pub fold_less : Operand → Operand → Outcome
fold_less a b = if is_number b 0 || is_full a || same_operand a b then Number 0 else Keep

-- What `<=` is, where it is known: 0 is at or below all, all ones are at or above all, and each is at or below itself.
abbrev pub fold_at_most : Operand → Operand → Outcome
fold_at_most a b = if is_number a 0 || is_full b || same_operand a b then Number 1 else Keep

-- What a shift of an operand of width w is, where it is known: of 0, by 0, or by w or more.
abbrev pub fold_shift : (w : ℕ) → Operand → Operand → Outcome
fold_shift w a (Named y) = if is_number a 0 then First else Keep
fold_shift w a (Constant u m) = if m == 0 || is_number a 0 then First else if nat_le w m then Number 0 else Keep

-- The rule of each operator of two operands; `w` is the width of its result.
abbrev pub fold_operator : (w : ℕ) → Op2 → Operand → Operand → Outcome
fold_operator w Add a b = fold_add a b
fold_operator w Sub a b = fold_sub a b
fold_operator w Mul a b = fold_mul a b
fold_operator w And a b = fold_and a b
fold_operator w Or a b = fold_or a b
fold_operator w Xor a b = fold_xor a b
fold_operator w Eq a b = fold_equal a b
fold_operator w Ne a b = fold_unequal a b
fold_operator w Lt a b = fold_less a b
fold_operator w Le a b = fold_at_most a b
fold_operator w Shl a b = fold_shift w a b
fold_operator w Shr a b = fold_shift w a b

-- What an operator of two operands gives: a number of two constants, else what its rule says.
abbrev pub fold_two : (w : ℕ) → Op2 → Operand → Operand → Outcome
fold_two w op a b = or_else (fold_constants op a b) (fold_operator w op a b)

-- A choice between bits of which one is a number: `c ? 1 : 0` is c, `c ? 0 : 1` is ~c, `c ? a : 0` is c & a, `c ? 1 :
-- b` is c | b.
abbrev pub fold_choose_bit : (a b : Operand) → Outcome
fold_choose_bit a b =
    if is_number a 1 && is_number b 0 then Condition else if is_number a 0 && is_number b 1 then NotCondition
    else if is_number b 0 then ConditionAndFirst else if is_number a 1 then ConditionOrSecond else Keep

-- What a choice is, where it is known: by a constant, between equal arms, or between bits. `w` is its width.
abbrev pub fold_choose : (w : ℕ) → (c a b : Operand) → Outcome
fold_choose w c a b =
    if is_number c 0 then Second else if is_number c 1 || same_operand a b then First
    else if w == 1 then fold_choose_bit a b else Keep

-- the right side of an outcome

-- The right side for an outcome of an operator of one operand.
abbrev pub of_one : (w : ℕ) → Op1 → Operand → Outcome → Right
of_one w op a (Number n) = Copy (Constant w n)
of_one w op a _ = One op a

-- The right side for an outcome of an operator of two operands.
abbrev pub of_two : (w : ℕ) → Op2 → Operand → Operand → Outcome → Right
of_two w op a b First = Copy a
of_two w op a b Second = Copy b
of_two w op a b (Number n) = Copy (Constant w n)
of_two w op a b NotFirst = One Not a
of_two w op a b NotSecond = One Not b
of_two w op a b _ = Two op a b

-- The right side for an outcome of a choice.
abbrev pub of_choose : (c a b : Operand) → Outcome → Right
of_choose c a b Condition = Copy c
of_choose c a b First = Copy a
of_choose c a b Second = Copy b
of_choose c a b NotCondition = One Not c
of_choose c a b ConditionAndFirst = Two And c a
of_choose c a b ConditionOrSecond = Two Or c b
of_choose c a b _ = Choose c a b

-- The right side that the table makes of a right side of width w, by its first rule that fits. Slices, cells and
-- concatenations stay.
abbrev pub folded : (w : ℕ) → Right → Right
folded w (One op a) = of_one w op a (fold_one op a)
folded w (Two op a b) = of_two w op a b (fold_two w op a b)
folded w (Choose c a b) = of_choose c a b (fold_choose w c a b)
folded w r = r

-- A right side folded until the table folds it no further: a choice may become an operator on two operands, that one on
-- one operand, and that a number.
abbrev pub settled : (w : ℕ) → Right → Right
settled w r = folded w (folded w (folded w r))
