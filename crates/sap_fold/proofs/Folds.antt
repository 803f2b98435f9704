-- Each rule gives a right side that fits where the given one does, and has its value.
use Rattle.sap_lemmas.proofs.Common.{◌≡◌, ℕ, zero, suc, ◌+◌, ◌-◌, ◌*◌, ◌/◌, ◌%◌, ◌^◌, ◌<◌, ◌≤◌, ◌==◌, ◌&&◌, ◌||◌, List, Bool, true, false, sym, ap, ap₂, ◌∙◌, subst, refl, inl, inr, arith, ◌⊎◌, nat_le, if◌then◌else◌, bit_and, bit_or, and_zero_l, or_zero_l, or_zero_r, pow_pos, mod-eq_of_lt, and_comm, or_comm, cases_Bool, and_parts, le-leb, le-ltb, leb-true, nat_tests, equal_of_test, positive_of_test, equal_of_bytes_eq}
use Rattle.std.specs.Prelude.{bit_xor}
use Rattle.std.specs.Int.Bits.{and_self, or_self, xor_self, and_zero_r, xor_zero_l, xor_zero_r}
use Rattle.std.proofs.Math.Nat.{add-mul-mod_self_left, mod_self, div-eq_of_lt}
use Rattle.std.proofs.lemmas.Nat.{and_mask, and_or_self}
use Rattle.sap_lemmas.proofs.Numbers.{test_of_zero}
use Rattle.sap_net.proofs.RulesLemmas.{one_wide}
use Rattle.sap_bits.specs.Arithmetic.{value1, value2, width1, width2}
use Rattle.sap_bits.specs.declared.Op1.{Op1}
use Rattle.sap_bits.specs.declared.Op1.TheVariants.{Not}
use Rattle.sap_bits.specs.declared.Op2.{Op2}
use Rattle.sap_bits.specs.declared.Op2.TheVariants.{Add, Sub, Mul, And, Or, Xor, Eq, Ne, Lt, Le, Shl, Shr}
use Rattle.sap_bits.proofs.Within.{value1_below, value2_below}
use Rattle.sap_bits.proofs.Low.{shl_past, shr_past}
use Rattle.sap_maps.specs.Prelude.{Name, Valuation, Scope, CountFits}
use Rattle.sap_maps.proofs.Terms.{right_fits}
use Rattle.sap_net.specs.Prelude.{Shapes, IsWidth, IsOperand, IsRight, readable_after, operand_value, right_value, ValuesBelow, WidthsAre}
use Rattle.sap_net.specs.declared.parts.Operand.{Operand}
use Rattle.sap_net.specs.declared.parts.Operand.TheVariants.{Named, Constant}
use Rattle.sap_net.specs.declared.parts.Right.{Right}
use Rattle.sap_net.specs.declared.parts.Right.TheVariants.{Copy, One, Two, Choose, Concat, Slice, Cell}
use Rattle.sap_net.specs.declared.parts.Wire.{Wire}
use Rattle.sap_net.proofs.Within.{operand_below, operand_is_wide}
use Rattle.sap_fold.specs.declared.rules.Outcome.{Outcome}
use Rattle.sap_fold.specs.declared.rules.Outcome.TheVariants.{Keep, Condition, First, Second, Number, NotCondition, NotFirst, NotSecond, ConditionAndFirst, ConditionOrSecond}
use Rattle.sap_fold.specs.Equals.{Equals}
use Rattle.sap_fold.specs.Folding.{or_else, is_number, is_bit, fits, is_full, same_operand, fold_one, is_second, fold_constants, fold_and, fold_or, fold_xor, fold_add, fold_sub, fold_mul, fold_equal, fold_unequal, fold_less, fold_at_most, fold_shift, fold_operator, fold_two, fold_choose_bit, fold_choose, of_one, of_two, of_choose, folded}
use Rattle.sap_fold.proofs.Lists.{or_elim}

-- Over any names: where a is a right side of width u, so is b, and both have the same value.
pub record Same (u : ℕ) (a b : Right) : Type 0 where
  pub fit : (ms : Shapes) (sc : Scope) → IsRight ms sc u a → IsRight ms sc u b
  pub value : (ms : Shapes) (sc : Scope) (widths : Name → ℕ) (v : Valuation) → WidthsAre sc widths → ValuesBelow sc v → IsRight ms sc u a
      → right_value widths v a ≡ right_value widths v b

pub equals_from : (ws : List Wire) (u : ℕ) (a b : Right) → Same u a b → Equals ws u a b
equals_from ws u a b s =
    record {
      fits = λ ms sc f h. s.fit ms (readable_after sc ws) h;
      same = λ ms sc widths v o h. s.value ms (readable_after sc ws) widths v o.wide o.below h;
    }

keep : (u : ℕ) (a : Right) → Same u a a
keep u a = record { fit = λ ms sc h. h; value = λ ms sc widths v w b h. refl }

-- operands

pub number_is : (v : Valuation) (o : Operand) (n : ℕ) → is_number o n ≡ true → operand_value v o ≡ n
number_is v (Named x) n h = absurd (cc)
number_is v (Constant w m) n h = equal_of_test m n h

full_is : (sc : Scope) (v : Valuation) (u : ℕ) (o : Operand) → IsOperand sc u o → is_full o ≡ true → operand_value v o ≡ 2 ^ u - 1
full_is sc v u (Named x) f h = absurd (cc)
full_is sc v u (Constant w n) f h =
    let e = equal_of_test n (2 ^ w - 1) ((and_parts (fits w n) (n == 2 ^ w - 1) h).1) in
    e ∙ ap (λ (k : ℕ). 2 ^ k - 1) f.0

pub same_is : (a b : Operand) → same_operand a b ≡ true → a ≡ b
same_is (Named x) (Named y) h = ap Named (equal_of_bytes_eq x y h)
same_is (Named x) (Constant w n) h = absurd (cc)
same_is (Constant w n) (Named y) h = absurd (cc)
same_is (Constant w n) (Constant u m) h =
    let r = and_parts (w == u) (n == m) h in ap₂ Constant (equal_of_test w u r.0) (equal_of_test n m r.1)

below_from : (w n : ℕ) → n ≤ 2 ^ w - 1 → n < 2 ^ w
below_from w n h = omega (arith, h, pow_pos w)

fits_is : (w n : ℕ) → fits w n ≡ true → n < 2 ^ w
fits_is w n h =
    let a = and_parts (nat_le 1 w && nat_le w 64) (nat_le n (2 ^ w - 1)) h in
    below_from w n (leb-true n (2 ^ w - 1) a.1)

-- What is known of an operator's operands.
record Facts (op : Op2) (sc : Scope) (v : Valuation) (u t : ℕ) (a b : Operand) : Type 0 where
  wide : IsWidth u
  left : IsOperand sc u a
  right : IsOperand sc t b
  count : CountFits op u t
  left_below : operand_value v a < 2 ^ u
  right_below : operand_value v b < 2 ^ t

abbrev Values : Op2 → Operand → Operand → ((v : Valuation) → ℕ) → Type 0
Values op a b f = (sc : Scope) (v : Valuation) (u t : ℕ) → Facts op sc v u t a b → value2 op u (operand_value v a) (operand_value v b) ≡ f v

facts : (op : Op2) (ms : Shapes) (sc : Scope) (v : Valuation) (w : ℕ) (a b : Operand) → ValuesBelow sc v → (h : IsRight ms sc w (Two op a b)) → Facts op sc v h.0 h.1 a b
facts op ms sc v w a b below h =
    record {
      wide = h.2;
      left = h.4;
      right = h.5;
      count = h.6;
      left_below = operand_below sc v below h.0 a h.4;
      right_below = operand_below sc v below h.1 b h.5;
    }

two_value_at : (op : Op2) (a b : Operand) (sc : Scope) (widths : Name → ℕ) (v : Valuation) (u : ℕ) → WidthsAre sc widths → IsOperand sc u a
    → right_value widths v (Two op a b) ≡ value2 op u (operand_value v a) (operand_value v b)
two_value_at op a b sc widths v u wide h =
    ap (λ (n : ℕ). value2 op n (operand_value v a) (operand_value v b)) (operand_is_wide sc widths wide u a h)

two_value : (op : Op2) (a b : Operand) (f : (v : Valuation) → ℕ) → Values op a b f
    → (ms : Shapes) (sc : Scope) (widths : Name → ℕ) (v : Valuation) (w : ℕ) → WidthsAre sc widths → ValuesBelow sc v
    → IsRight ms sc w (Two op a b) → right_value widths v (Two op a b) ≡ f v
two_value op a b f k ms sc widths v w wide below h =
    two_value_at op a b sc widths v h.0 wide h.4 ∙ k sc v h.0 h.1 (facts op ms sc v w a b below h)

-- an operator that gives numbers of its operands' width
abbrev pub KeepsWidth : Op2 → Type 0
KeepsWidth op = (u : ℕ) → width2 op u ≡ u

-- whose operands have the same width
abbrev pub SameWidths : Op2 → Type 0
SameWidths op = (u t : ℕ) → CountFits op u t → t ≡ u

to_first : (w : ℕ) (op : Op2) (a b : Operand) → KeepsWidth op → Values op a b (λ v. operand_value v a) → Same w (Two op a b) (Copy a)
to_first w op a b e k =
    record {
      fit = λ ms sc h. subst (λ (n : ℕ). IsOperand sc n a) (sym (h.7 ∙ e h.0)) h.4;
      value = λ ms sc widths v wide below h. two_value op a b (λ x. operand_value x a) k ms sc widths v w wide below h;
    }

to_second : (w : ℕ) (op : Op2) (a b : Operand) → KeepsWidth op → SameWidths op → Values op a b (λ v. operand_value v b) → Same w (Two op a b) (Copy b)
to_second w op a b e s k =
    record {
      fit = λ ms sc h. subst (λ (n : ℕ). IsOperand sc n b) (s h.0 h.1 h.6 ∙ sym (h.7 ∙ e h.0)) h.5;
      value = λ ms sc widths v wide below h. two_value op a b (λ x. operand_value x b) k ms sc widths v w wide below h;
    }

to_number : (w : ℕ) (op : Op2) (a b : Operand) (n : ℕ) → ((ms : Shapes) (sc : Scope) → IsRight ms sc w (Two op a b) → n < 2 ^ w)
    → Values op a b (λ v. n) → Same w (Two op a b) (Copy (Constant w n))
to_number w op a b n l k =
    record {
      fit = λ ms sc h. (refl, l ms sc h);
      value = λ ms sc widths v wide below h. two_value op a b (λ x. n) k ms sc widths v w wide below h;
    }

-- what holds of an outcome
abbrev Good : (w : ℕ) → Op2 → Operand → Operand → Outcome → Type 0
Good w op a b f = Same w (Two op a b) (of_two w op a b f)

good_if : (w : ℕ) (op : Op2) (a b : Operand) (t : Bool) (f g : Outcome) → (t ≡ true → Good w op a b f) → Good w op a b g → Good w op a b (if t then f else g)
good_if w op a b true f g h k = h refl
good_if w op a b false f g h k = k

good_else : (w : ℕ) (op : Op2) (a b : Operand) (f g : Outcome) → Good w op a b f → Good w op a b g → Good w op a b (or_else f g)
good_else w op a b Keep g h k = k
good_else w op a b Condition g h k = h
good_else w op a b First g h k = h
good_else w op a b Second g h k = h
good_else w op a b (Number n) g h k = h
good_else w op a b NotCondition g h k = h
good_else w op a b NotFirst g h k = h
good_else w op a b NotSecond g h k = h
good_else w op a b ConditionAndFirst g h k = h
good_else w op a b ConditionOrSecond g h k = h

-- equal operands
equal_values : (a b : Operand) (v : Valuation) → same_operand a b ≡ true → operand_value v b ≡ operand_value v a
equal_values a b v t = sym (ap (operand_value v) (same_is a b t))

-- `&`

masked : (x u : ℕ) → x < 2 ^ u → bit_and x (2 ^ u - 1) ≡ x
masked x u h = and_mask x u ∙ mod-eq_of_lt h

good_and : (w : ℕ) (a b : Operand) → Good w And a b (fold_and a b)
good_and w a b =
    let e : KeepsWidth And = λ u. refl in
    let s : SameWidths And = λ u t c. c in
    good_if w And a b (is_number b 0 || is_full a) Second _
    (λ t. to_second w And a b e s (λ sc v u q f.
    or_elim (is_number b 0) (is_full a) (bit_and (operand_value v a) (operand_value v b) ≡ operand_value v b)
    (λ z. let i = number_is v b 0 z in rw i (and_zero_r (operand_value v a)))
    (λ z. let i = full_is sc v u a f.left z in let l = subst (λ (k : ℕ). operand_value v b < 2 ^ k) f.count f.right_below in
    rw i (and_comm (2 ^ u - 1) (operand_value v b) ∙ masked (operand_value v b) u l)) t))
    (good_if w And a b (is_number a 0 || is_full b || same_operand a b) First Keep
    (λ t. to_first w And a b e (λ sc v u q f.
    or_elim (is_number a 0 || is_full b) (same_operand a b) (bit_and (operand_value v a) (operand_value v b) ≡ operand_value v a)
    (λ y. or_elim (is_number a 0) (is_full b) (bit_and (operand_value v a) (operand_value v b) ≡ operand_value v a)
    (λ z. let i = number_is v a 0 z in rw i (and_zero_l (operand_value v b)))
    (λ z. let i = full_is sc v q b f.right z in ap (bit_and (operand_value v a)) (i ∙ ap (λ (k : ℕ). 2 ^ k - 1) f.count) ∙ masked (operand_value v a) u f.left_below) y)
    (λ z. ap (bit_and (operand_value v a)) (equal_values a b v z) ∙ and_self (operand_value v a)) t))
    (keep w (Two And a b)))

-- `|`

or_below : (x y u : ℕ) → x < 2 ^ u → y < 2 ^ u → bit_or x y < 2 ^ u
or_below x y u h k = value2_below Or u x y h k

-- all ones stay so
or_full : (x u : ℕ) → x < 2 ^ u → bit_or x (2 ^ u - 1) ≡ 2 ^ u - 1
or_full x u h =
    let l : bit_or x (2 ^ u - 1) < 2 ^ u = or_below x (2 ^ u - 1) u h (omega (arith, pow_pos u)) in
    sym (masked (bit_or x (2 ^ u - 1)) u l) ∙ and_or_self (2 ^ u - 1) x

good_or : (w : ℕ) (a b : Operand) → Good w Or a b (fold_or a b)
good_or w a b =
    let e : KeepsWidth Or = λ u. refl in
    let s : SameWidths Or = λ u t c. c in
    good_if w Or a b (is_number b 0 || is_full a || same_operand a b) First _
    (λ t. to_first w Or a b e (λ sc v u q f.
    or_elim (is_number b 0 || is_full a) (same_operand a b) (bit_or (operand_value v a) (operand_value v b) ≡ operand_value v a)
    (λ y. or_elim (is_number b 0) (is_full a) (bit_or (operand_value v a) (operand_value v b) ≡ operand_value v a)
    (λ z. ap (bit_or (operand_value v a)) (number_is v b 0 z) ∙ or_zero_r (operand_value v a))
    (λ z. let i = full_is sc v u a f.left z in let l = subst (λ (k : ℕ). operand_value v b < 2 ^ k) f.count f.right_below in
    rw i (or_comm (2 ^ u - 1) (operand_value v b) ∙ or_full (operand_value v b) u l)) y)
    (λ z. ap (bit_or (operand_value v a)) (equal_values a b v z) ∙ or_self (operand_value v a)) t))
    (good_if w Or a b (is_number a 0 || is_full b) Second Keep
    (λ t. to_second w Or a b e s (λ sc v u q f.
    or_elim (is_number a 0) (is_full b) (bit_or (operand_value v a) (operand_value v b) ≡ operand_value v b)
    (λ z. let i = number_is v a 0 z in rw i (or_zero_l (operand_value v b)))
    (λ z. let i = full_is sc v q b f.right z ∙ ap (λ (k : ℕ). 2 ^ k - 1) f.count in rw i (or_full (operand_value v a) u f.left_below)) t))
    (keep w (Two Or a b)))

-- `^`

zero_fits : (w : ℕ) → 0 < 2 ^ w
zero_fits w = pow_pos w

good_xor : (w : ℕ) (a b : Operand) → Good w Xor a b (fold_xor a b)
good_xor w a b =
    let e : KeepsWidth Xor = λ u. refl in
    let s : SameWidths Xor = λ u t c. c in
    good_if w Xor a b (is_number b 0) First _
    (λ t. to_first w Xor a b e (λ sc v u q f. ap (bit_xor (operand_value v a)) (number_is v b 0 t) ∙ xor_zero_r (operand_value v a)))
    (good_if w Xor a b (is_number a 0) Second _
    (λ t. to_second w Xor a b e s (λ sc v u q f. let i = number_is v a 0 t in rw i (xor_zero_l (operand_value v b))))
    (good_if w Xor a b (same_operand a b) (Number 0) Keep
    (λ t. to_number w Xor a b 0 (λ ms sc h. zero_fits w) (λ sc v u q f. ap (bit_xor (operand_value v a)) (equal_values a b v t) ∙ xor_self (operand_value v a)))
    (keep w (Two Xor a b))))

-- `+`, `-`, `*`

good_add : (w : ℕ) (a b : Operand) → Good w Add a b (fold_add a b)
good_add w a b =
    let e : KeepsWidth Add = λ u. refl in
    let s : SameWidths Add = λ u t c. c in
    good_if w Add a b (is_number b 0) First _
    (λ t. to_first w Add a b e (λ sc v u q f.
    let i = number_is v b 0 t in
    let x : operand_value v a + operand_value v b ≡ operand_value v a = omega (arith, i) in
    ap (λ (k : ℕ). k % 2 ^ u) x ∙ mod-eq_of_lt f.left_below))
    (good_if w Add a b (is_number a 0) Second Keep
    (λ t. to_second w Add a b e s (λ sc v u q f.
    let i = number_is v a 0 t in
    let x : operand_value v a + operand_value v b ≡ operand_value v b = omega (arith, i) in
    ap (λ (k : ℕ). k % 2 ^ u) x ∙ mod-eq_of_lt (subst (λ (k : ℕ). operand_value v b < 2 ^ k) f.count f.right_below)))
    (keep w (Two Add a b)))

wraps : (n x : ℕ) → x < n → (n + x - 0) % n ≡ x
wraps n x h =
    let e : n + x - 0 ≡ x + n * 1 = omega arith in
    ap (λ (k : ℕ). k % n) e ∙ add-mul-mod_self_left x n 1 ∙ mod-eq_of_lt h

good_sub : (w : ℕ) (a b : Operand) → Good w Sub a b (fold_sub a b)
good_sub w a b =
    let e : KeepsWidth Sub = λ u. refl in
    good_if w Sub a b (is_number b 0) First _
    (λ t. to_first w Sub a b e (λ sc v u q f. let i = number_is v b 0 t in rw i (wraps (2 ^ u) (operand_value v a) f.left_below)))
    (good_if w Sub a b (same_operand a b) (Number 0) Keep
    (λ t. to_number w Sub a b 0 (λ ms sc h. zero_fits w) (λ sc v u q f.
    let i = equal_values a b v t in
    let x : 2 ^ u + operand_value v a - operand_value v b ≡ 2 ^ u = omega (arith, i) in
    ap (λ (k : ℕ). k % 2 ^ u) x ∙ mod_self (2 ^ u)))
    (keep w (Two Sub a b)))

good_mul : (w : ℕ) (a b : Operand) → Good w Mul a b (fold_mul a b)
good_mul w a b =
    let e : KeepsWidth Mul = λ u. refl in
    let s : SameWidths Mul = λ u t c. c in
    good_if w Mul a b (is_number b 0 || is_number a 1) Second _
    (λ t. to_second w Mul a b e s (λ sc v u q f.
    let l = subst (λ (k : ℕ). operand_value v b < 2 ^ k) f.count f.right_below in
    let x : operand_value v a * operand_value v b ≡ operand_value v b =
    or_elim (is_number b 0) (is_number a 1) (operand_value v a * operand_value v b ≡ operand_value v b)
    (λ z. let i = number_is v b 0 z in rw i (omega arith))
    (λ z. let i = number_is v a 1 z in rw i (omega arith)) t in
    ap (λ (k : ℕ). k % 2 ^ u) x ∙ mod-eq_of_lt l))
    (good_if w Mul a b (is_number a 0 || is_number b 1) First Keep
    (λ t. to_first w Mul a b e (λ sc v u q f.
    let x : operand_value v a * operand_value v b ≡ operand_value v a =
    or_elim (is_number a 0) (is_number b 1) (operand_value v a * operand_value v b ≡ operand_value v a)
    (λ z. let i = number_is v a 0 z in rw i (omega arith))
    (λ z. let i = number_is v b 1 z in rw i (omega arith)) t in
    ap (λ (k : ℕ). k % 2 ^ u) x ∙ mod-eq_of_lt f.left_below))
    (keep w (Two Mul a b)))

-- comparisons

one_fits : (w : ℕ) → w ≡ 1 → 1 < 2 ^ w
one_fits w e = subst (λ (k : ℕ). 1 < 2 ^ k) (sym e) (omega arith)

self_eq : (x y : ℕ) → y ≡ x → (x == y) ≡ true
self_eq x y e = grind (arith, nat_tests)

-- a bit, compared with a number of one bit

bit_is : (sc : Scope) (v : Valuation) (u : ℕ) (o : Operand) (n : ℕ) → IsOperand sc u o → is_bit o n ≡ true → operand_value v o ≡ n
bit_is sc v u (Named x) n f h = absurd (cc)
bit_is sc v u (Constant w m) n f h = equal_of_test m n ((and_parts (w == 1) (m == n) h).1)

bit_wide : (sc : Scope) (u : ℕ) (o : Operand) (n : ℕ) → IsOperand sc u o → is_bit o n ≡ true → u ≡ 1
bit_wide sc u (Named x) n f h = absurd (cc)
bit_wide sc u (Constant w m) n f h = sym f.0 ∙ equal_of_test w 1 ((and_parts (w == 1) (m == n) h).0)

bit_first : (w : ℕ) (op : Op2) (a b : Operand) (n : ℕ) → SameWidths op → ((u : ℕ) → width2 op u ≡ 1) → is_bit b n ≡ true
    → ((x u : ℕ) → x < 2 ^ 1 → value2 op u x n ≡ x) → Same w (Two op a b) (Copy a)
bit_first w op a b n s e t k =
    let one : (sc : Scope) (u q : ℕ) → CountFits op u q → IsOperand sc q b → u ≡ 1 = λ sc u q c h. sym (s u q c) ∙ bit_wide sc q b n h t in
    record {
      fit = λ ms sc h. subst (λ (z : ℕ). IsOperand sc z a) (one sc h.0 h.1 h.6 h.5 ∙ sym (h.7 ∙ e h.0)) h.4;
      value = λ ms sc widths v wide below h.
          two_value op a b (λ x. operand_value x a)
          (λ sd x u q f. ap (value2 op u (operand_value x a)) (bit_is sd x q b n f.right t)
          ∙ k (operand_value x a) u (subst (λ (z : ℕ). operand_value x a < 2 ^ z) (one sd u q f.count f.right) f.left_below))
          ms sc widths v w wide below h;
    }

bit_second : (w : ℕ) (op : Op2) (a b : Operand) (n : ℕ) → SameWidths op → ((u : ℕ) → width2 op u ≡ 1) → is_bit a n ≡ true
    → ((x u : ℕ) → x < 2 ^ 1 → value2 op u n x ≡ x) → Same w (Two op a b) (Copy b)
bit_second w op a b n s e t k =
    record {
      fit = λ ms sc h. subst (λ (z : ℕ). IsOperand sc z b) (s h.0 h.1 h.6 ∙ bit_wide sc h.0 a n h.4 t ∙ sym (h.7 ∙ e h.0)) h.5;
      value = λ ms sc widths v wide below h.
          two_value op a b (λ x. operand_value x b)
          (λ sd x u q f. ap (λ (y : ℕ). value2 op u y (operand_value x b)) (bit_is sd x u a n f.left t)
          ∙ k (operand_value x b) u (subst (λ (z : ℕ). operand_value x b < 2 ^ z) (s u q f.count ∙ bit_wide sd u a n f.left t) f.right_below))
          ms sc widths v w wide below h;
    }

pub bit_cases : (x : ℕ) → x < 2 ^ 1 → (x ≡ 0) ⊎ (x ≡ 1)
bit_cases zero h = inl refl
bit_cases (suc zero) h = inr refl
bit_cases (suc (suc k)) h = absurd (omega (arith, h))

equals_one : (x : ℕ) → x < 2 ^ 1 → (if x == 1 then 1 else 0) ≡ x
equals_one x h = elim (bit_cases x h) [ inl e ↦ rw e refl | inr e ↦ rw e refl ]

one_equals : (x : ℕ) → x < 2 ^ 1 → (if 1 == x then 1 else 0) ≡ x
one_equals x h = elim (bit_cases x h) [ inl e ↦ rw e refl | inr e ↦ rw e refl ]

differs_zero : (x : ℕ) → x < 2 ^ 1 → (if x == 0 then 0 else 1) ≡ x
differs_zero x h = elim (bit_cases x h) [ inl e ↦ rw e refl | inr e ↦ rw e refl ]

zero_differs : (x : ℕ) → x < 2 ^ 1 → (if 0 == x then 0 else 1) ≡ x
zero_differs x h = elim (bit_cases x h) [ inl e ↦ rw e refl | inr e ↦ rw e refl ]

-- the negation of a bit

negated_first : (w : ℕ) (op : Op2) (a b : Operand) (n : ℕ) → SameWidths op → ((u : ℕ) → width2 op u ≡ 1) → is_bit b n ≡ true
    → ((x u : ℕ) → x < 2 ^ 1 → value2 op u x n ≡ 2 ^ 1 - 1 - x) → Same w (Two op a b) (One Not a)
negated_first w op a b n s e t k =
    let one : (sc : Scope) (u q : ℕ) → CountFits op u q → IsOperand sc q b → u ≡ 1 = λ sc u q c h. sym (s u q c) ∙ bit_wide sc q b n h t in
    let left : (ms : Shapes) (sc : Scope) → IsRight ms sc w (Two op a b) → IsOperand sc 1 a = λ ms sc h. subst (λ (z : ℕ). IsOperand sc z a) (one sc h.0 h.1 h.6 h.5) h.4 in
    record {
      fit = λ ms sc h. (1, one_wide, left ms sc h, h.7 ∙ e h.0);
      value = λ ms sc widths v wide below h.
          two_value op a b (λ x. 2 ^ 1 - 1 - operand_value x a)
          (λ sd x u q f. ap (value2 op u (operand_value x a)) (bit_is sd x q b n f.right t)
          ∙ k (operand_value x a) u (subst (λ (z : ℕ). operand_value x a < 2 ^ z) (one sd u q f.count f.right) f.left_below))
          ms sc widths v w wide below h
          ∙ sym (ap (λ (z : ℕ). 2 ^ z - 1 - operand_value v a) (operand_is_wide sc widths wide 1 a (left ms sc h)));
    }

negated_second : (w : ℕ) (op : Op2) (a b : Operand) (n : ℕ) → SameWidths op → ((u : ℕ) → width2 op u ≡ 1) → is_bit a n ≡ true
    → ((x u : ℕ) → x < 2 ^ 1 → value2 op u n x ≡ 2 ^ 1 - 1 - x) → Same w (Two op a b) (One Not b)
negated_second w op a b n s e t k =
    let right : (ms : Shapes) (sc : Scope) → IsRight ms sc w (Two op a b) → IsOperand sc 1 b =
    λ ms sc h. subst (λ (z : ℕ). IsOperand sc z b) (s h.0 h.1 h.6 ∙ bit_wide sc h.0 a n h.4 t) h.5 in
    record {
      fit = λ ms sc h. (1, one_wide, right ms sc h, h.7 ∙ e h.0);
      value = λ ms sc widths v wide below h.
          two_value op a b (λ x. 2 ^ 1 - 1 - operand_value x b)
          (λ sd x u q f. ap (λ (y : ℕ). value2 op u y (operand_value x b)) (bit_is sd x u a n f.left t)
          ∙ k (operand_value x b) u (subst (λ (z : ℕ). operand_value x b < 2 ^ z) (s u q f.count ∙ bit_wide sd u a n f.left t) f.right_below))
          ms sc widths v w wide below h
          ∙ sym (ap (λ (z : ℕ). 2 ^ z - 1 - operand_value v b) (operand_is_wide sc widths wide 1 b (right ms sc h)));
    }

equals_zero : (x : ℕ) → x < 2 ^ 1 → (if x == 0 then 1 else 0) ≡ 2 ^ 1 - 1 - x
equals_zero x h = elim (bit_cases x h) [ inl e ↦ rw e refl | inr e ↦ rw e refl ]

zero_equals : (x : ℕ) → x < 2 ^ 1 → (if 0 == x then 1 else 0) ≡ 2 ^ 1 - 1 - x
zero_equals x h = elim (bit_cases x h) [ inl e ↦ rw e refl | inr e ↦ rw e refl ]

differs_one : (x : ℕ) → x < 2 ^ 1 → (if x == 1 then 0 else 1) ≡ 2 ^ 1 - 1 - x
differs_one x h = elim (bit_cases x h) [ inl e ↦ rw e refl | inr e ↦ rw e refl ]

one_differs : (x : ℕ) → x < 2 ^ 1 → (if 1 == x then 0 else 1) ≡ 2 ^ 1 - 1 - x
one_differs x h = elim (bit_cases x h) [ inl e ↦ rw e refl | inr e ↦ rw e refl ]

good_eq : (w : ℕ) (a b : Operand) → Good w Eq a b (fold_equal a b)
good_eq w a b =
    let s : SameWidths Eq = λ u t c. c in
    good_if w Eq a b (same_operand a b) (Number 1) _
    (λ t. to_number w Eq a b 1 (λ ms sc h. one_fits w h.7) (λ sc v u q f. let i = self_eq (operand_value v a) (operand_value v b) (equal_values a b v t) in rw i refl))
    (good_if w Eq a b (is_bit b 1) First _
    (λ t. bit_first w Eq a b 1 s (λ u. refl) t (λ x u h. equals_one x h))
    (good_if w Eq a b (is_bit a 1) Second _
    (λ t. bit_second w Eq a b 1 s (λ u. refl) t (λ x u h. one_equals x h))
    (good_if w Eq a b (is_bit b 0) NotFirst _
    (λ t. negated_first w Eq a b 0 s (λ u. refl) t (λ x u h. equals_zero x h))
    (good_if w Eq a b (is_bit a 0) NotSecond Keep
    (λ t. negated_second w Eq a b 0 s (λ u. refl) t (λ x u h. zero_equals x h))
    (keep w (Two Eq a b))))))

good_ne : (w : ℕ) (a b : Operand) → Good w Ne a b (fold_unequal a b)
good_ne w a b =
    let s : SameWidths Ne = λ u t c. c in
    good_if w Ne a b (same_operand a b) (Number 0) _
    (λ t. to_number w Ne a b 0 (λ ms sc h. zero_fits w) (λ sc v u q f. let i = self_eq (operand_value v a) (operand_value v b) (equal_values a b v t) in rw i refl))
    (good_if w Ne a b (is_bit b 0) First _
    (λ t. bit_first w Ne a b 0 s (λ u. refl) t (λ x u h. differs_zero x h))
    (good_if w Ne a b (is_bit a 0) Second _
    (λ t. bit_second w Ne a b 0 s (λ u. refl) t (λ x u h. zero_differs x h))
    (good_if w Ne a b (is_bit b 1) NotFirst _
    (λ t. negated_first w Ne a b 1 s (λ u. refl) t (λ x u h. differs_one x h))
    (good_if w Ne a b (is_bit a 1) NotSecond Keep
    (λ t. negated_second w Ne a b 1 s (λ u. refl) t (λ x u h. one_differs x h))
    (keep w (Two Ne a b))))))

good_lt : (w : ℕ) (a b : Operand) → Good w Lt a b (fold_less a b)
good_lt w a b =
    good_if w Lt a b (is_number b 0 || is_full a || same_operand a b) (Number 0) Keep
    (λ t. to_number w Lt a b 0 (λ ms sc h. zero_fits w) (λ sc v u q f.
    let l = subst (λ (k : ℕ). operand_value v b < 2 ^ k) f.count f.right_below in
    let x : operand_value v b ≤ operand_value v a =
    or_elim (is_number b 0 || is_full a) (same_operand a b) (operand_value v b ≤ operand_value v a)
    (λ y. or_elim (is_number b 0) (is_full a) (operand_value v b ≤ operand_value v a)
    (λ z. omega (arith, number_is v b 0 z))
    (λ z. omega (arith, full_is sc v u a f.left z, l)) y)
    (λ z. omega (arith, equal_values a b v z)) t in
    let i = le-ltb (operand_value v a) (operand_value v b) x in rw i refl))
    (keep w (Two Lt a b))

good_le : (w : ℕ) (a b : Operand) → Good w Le a b (fold_at_most a b)
good_le w a b =
    good_if w Le a b (is_number a 0 || is_full b || same_operand a b) (Number 1) Keep
    (λ t. to_number w Le a b 1 (λ ms sc h. one_fits w h.7) (λ sc v u q f.
    let l = f.left_below in
    let x : operand_value v a ≤ operand_value v b =
    or_elim (is_number a 0 || is_full b) (same_operand a b) (operand_value v a ≤ operand_value v b)
    (λ y. or_elim (is_number a 0) (is_full b) (operand_value v a ≤ operand_value v b)
    (λ z. omega (arith, number_is v a 0 z))
    (λ z. let i = full_is sc v q b f.right z ∙ ap (λ (k : ℕ). 2 ^ k - 1) f.count in omega (arith, i, l)) y)
    (λ z. omega (arith, equal_values a b v z)) t in
    let i = le-leb (operand_value v a) (operand_value v b) x in rw i refl))
    (keep w (Two Le a b))

-- shifts

shl_zero : (x n : ℕ) → x < n → (x * 1) % n ≡ x
shl_zero x n h = ap (λ (k : ℕ). k % n) (omega arith) ∙ mod-eq_of_lt h

no_bits : (n k : ℕ) → 0 < n → (0 * k) % n ≡ 0
no_bits n k h =
    let e : 0 * k ≡ 0 = omega arith in
    ap (λ (x : ℕ). x % n) e ∙ mod-eq_of_lt h

nothing_over : (n : ℕ) → 0 < n → 0 / n ≡ 0
nothing_over n h = div-eq_of_lt h

over_one : (x : ℕ) → x / 1 ≡ x
over_one x = omega arith

-- a count that is the width or more
to_past : (w : ℕ) (op : Op2) (a : Operand) (k m : ℕ) → KeepsWidth op → ((x u : ℕ) → u ≤ m → x < 2 ^ u → value2 op u x m ≡ 0)
    → Good w op a (Constant k m) (if nat_le w m then Number 0 else Keep)
to_past w op a k m e h =
    good_if w op a (Constant k m) (nat_le w m) (Number 0) Keep
    (λ t. record {
      fit = λ ms sc r. (refl, zero_fits w);
      value = λ ms sc widths v wide below r.
          let i : w ≡ r.0 = r.7 ∙ e r.0 in
          two_value_at op a (Constant k m) sc widths v r.0 wide r.4 ∙ h (operand_value v a) r.0 (subst (λ (z : ℕ). z ≤ m) i (leb-true w m t)) (operand_below sc v below r.0 a r.4);
    })
    (keep w (Two op a (Constant k m)))

good_shl : (w : ℕ) (a b : Operand) → Good w Shl a b (fold_shift w a b)
good_shl w a (Named y) =
    let e : KeepsWidth Shl = λ u. refl in
    good_if w Shl a (Named y) (is_number a 0) First Keep
    (λ t. to_first w Shl a (Named y) e (λ sc v u q f. let i = number_is v a 0 t in rw i (no_bits (2 ^ u) (2 ^ operand_value v (Named y)) (zero_fits u))))
    (keep w (Two Shl a (Named y)))
good_shl w a (Constant k m) =
    let e : KeepsWidth Shl = λ u. refl in
    good_if w Shl a (Constant k m) (m == 0 || is_number a 0) First _
    (λ t. to_first w Shl a (Constant k m) e (λ sc v u q f.
    or_elim (m == 0) (is_number a 0) ((operand_value v a * 2 ^ m) % 2 ^ u ≡ operand_value v a)
    (λ z. let i = equal_of_test m 0 z in rw i (shl_zero (operand_value v a) (2 ^ u) f.left_below))
    (λ z. let i = number_is v a 0 z in rw i (no_bits (2 ^ u) (2 ^ m) (zero_fits u))) t))
    (to_past w Shl a k m e (λ x u l h. shl_past x m u l))

good_shr : (w : ℕ) (a b : Operand) → Good w Shr a b (fold_shift w a b)
good_shr w a (Named y) =
    let e : KeepsWidth Shr = λ u. refl in
    good_if w Shr a (Named y) (is_number a 0) First Keep
    (λ t. to_first w Shr a (Named y) e (λ sc v u q f. let i = number_is v a 0 t in rw i (nothing_over (2 ^ operand_value v (Named y)) (zero_fits (operand_value v (Named y))))))
    (keep w (Two Shr a (Named y)))
good_shr w a (Constant k m) =
    let e : KeepsWidth Shr = λ u. refl in
    good_if w Shr a (Constant k m) (m == 0 || is_number a 0) First _
    (λ t. to_first w Shr a (Constant k m) e (λ sc v u q f.
    or_elim (m == 0) (is_number a 0) (operand_value v a / 2 ^ m ≡ operand_value v a)
    (λ z. let i = equal_of_test m 0 z in rw i (over_one (operand_value v a)))
    (λ z. let i = number_is v a 0 z in rw i (nothing_over (2 ^ m) (zero_fits m))) t))
    (to_past w Shr a k m e (λ x u l h. shr_past x m u l h))

good_operator : (w : ℕ) (op : Op2) (a b : Operand) → Good w op a b (fold_operator w op a b)
good_operator w Add a b = good_add w a b
good_operator w Sub a b = good_sub w a b
good_operator w Mul a b = good_mul w a b
good_operator w And a b = good_and w a b
good_operator w Or a b = good_or w a b
good_operator w Xor a b = good_xor w a b
good_operator w Eq a b = good_eq w a b
good_operator w Ne a b = good_ne w a b
good_operator w Lt a b = good_lt w a b
good_operator w Le a b = good_le w a b
good_operator w Shl a b = good_shl w a b
good_operator w Shr a b = good_shr w a b

-- constants

good_constants : (w : ℕ) (op : Op2) (a b : Operand) → Good w op a b (fold_constants op a b)
good_constants w op (Named x) b = keep w (Two op (Named x) b)
good_constants w op (Constant k n) (Named y) = keep w (Two op (Constant k n) (Named y))
good_constants w op (Constant k n) (Constant j m) =
    good_if w op (Constant k n) (Constant j m) (fits k n && is_second op k m) (Number (value2 op k n m)) Keep
    (λ t. to_number w op (Constant k n) (Constant j m) (value2 op k n m)
    (λ ms sc h. subst (λ (z : ℕ). value2 op k n m < 2 ^ z) (sym (h.7 ∙ sym (ap (width2 op) h.4.0)))
    (value2_below op k n m (fits_is k n ((and_parts (fits k n) (is_second op k m) t).0)) (right_fits op k h.1 m (subst (λ (z : ℕ). CountFits op z h.1) (sym h.4.0) h.6) h.5.1)))
    (λ sc v u q f. ap (λ (z : ℕ). value2 op z n m) (sym f.left.0)))
    (keep w (Two op (Constant k n) (Constant j m)))

two_same : (w : ℕ) (op : Op2) (a b : Operand) → Good w op a b (fold_two w op a b)
two_same w op a b = good_else w op a b (fold_constants op a b) (fold_operator w op a b) (good_constants w op a b) (good_operator w op a b)

one_if : (w : ℕ) (op : Op1) (k n : ℕ) (t : Bool) → (t ≡ true → n < 2 ^ k) → Same w (One op (Constant k n)) (of_one w op (Constant k n) (if t then Number (value1 op k n) else Keep))
one_if w op k n true h =
    record {
      fit = λ ms sc r. (refl, subst (λ (z : ℕ). value1 op k n < 2 ^ z) (sym (r.3 ∙ sym (ap (width1 op) r.2.0))) (value1_below op k n (h refl)));
      value = λ ms sc widths v wide below r. refl;
    }
one_if w op k n false h = keep w (One op (Constant k n))

one_same : (w : ℕ) (op : Op1) (a : Operand) → Same w (One op a) (of_one w op a (fold_one op a))
one_same w op (Named x) = keep w (One op (Named x))
one_same w op (Constant k n) = one_if w op k n (fits k n) (λ t. fits_is k n t)

-- choices

abbrev GoodChoice : (w : ℕ) (c a b : Operand) → Outcome → Type 0
GoodChoice w c a b f = Same w (Choose c a b) (of_choose c a b f)

choice_if : (w : ℕ) (c a b : Operand) (t : Bool) (f g : Outcome) → (t ≡ true → GoodChoice w c a b f) → GoodChoice w c a b g → GoodChoice w c a b (if t then f else g)
choice_if w c a b true f g h k = h refl
choice_if w c a b false f g h k = k

one_test : (x : ℕ) → x ≡ 1 → (x == 0) ≡ false
one_test x e = grind (arith, nat_tests)

both_same : (t : Bool) (x y : ℕ) → y ≡ x → (if t then y else x) ≡ x
both_same true x y e = e
both_same false x y e = refl

-- 1 where a bit is 1, else 0
bit_itself : (x y z : ℕ) → x < 2 ^ 1 → y ≡ 1 → z ≡ 0 → (if x == 0 then z else y) ≡ x
bit_itself x y z h e f =
    elim (cases_Bool (x == 0)) [
      | inl t ↦ let k = equal_of_test x 0 t in rw t (omega (arith, k, f))
      | inr g ↦ let k = positive_of_test x g in rw g (omega (arith, k, h, e))
    ]

-- a bit or its negation, and both with another bit

bit_negated : (x y z : ℕ) → x < 2 ^ 1 → y ≡ 0 → z ≡ 1 → (if x == 0 then z else y) ≡ 2 ^ 1 - 1 - x
bit_negated x y z h e f = elim (bit_cases x h) [ inl i ↦ rw (i, f) refl | inr i ↦ rw (i, e) refl ]

pub one_and : (y : ℕ) → y < 2 ^ 1 → bit_and 1 y ≡ y
one_and y h = elim (bit_cases y h) [ inl e ↦ rw e (and_zero_r 1) | inr e ↦ rw e (and_self 1) ]

pub one_or : (y : ℕ) → y < 2 ^ 1 → bit_or 1 y ≡ 1
one_or y h = elim (bit_cases y h) [ inl e ↦ rw e (or_zero_r 1) | inr e ↦ rw e (or_self 1) ]

bit_with : (x y z : ℕ) → x < 2 ^ 1 → y < 2 ^ 1 → z ≡ 0 → (if x == 0 then z else y) ≡ bit_and x y
bit_with x y z h k e =
    elim (bit_cases x h) [ inl i ↦ rw (i, e) (sym (and_zero_l y)) | inr i ↦ rw i (sym (one_and y k)) ]

bit_or_other : (x y z : ℕ) → x < 2 ^ 1 → z < 2 ^ 1 → y ≡ 1 → (if x == 0 then z else y) ≡ bit_or x z
bit_or_other x y z h k e =
    elim (bit_cases x h) [ inl i ↦ rw i (sym (or_zero_l z)) | inr i ↦ rw (i, e) (sym (one_or z k)) ]

bits_same : (w : ℕ) (c a b : Operand) → w ≡ 1 → GoodChoice w c a b (fold_choose_bit a b)
bits_same w c a b one =
    choice_if w c a b (is_number a 1 && is_number b 0) Condition _
    (λ t.
    let q = and_parts (is_number a 1) (is_number b 0) t in
    record {
      fit = λ ms sc h. subst (λ (k : ℕ). IsOperand sc k c) (sym one) h.0;
      value = λ ms sc widths v wide below h. bit_itself (operand_value v c) (operand_value v a) (operand_value v b)
          (operand_below sc v below 1 c h.0) (number_is v a 1 q.0) (number_is v b 0 q.1);
    })
    (choice_if w c a b (is_number a 0 && is_number b 1) NotCondition _
    (λ t.
    let q = and_parts (is_number a 0) (is_number b 1) t in
    record {
      fit = λ ms sc h. (1, one_wide, h.0, one);
      value = λ ms sc widths v wide below h.
          bit_negated (operand_value v c) (operand_value v a) (operand_value v b) (operand_below sc v below 1 c h.0) (number_is v a 0 q.0) (number_is v b 1 q.1)
          ∙ sym (ap (λ (k : ℕ). 2 ^ k - 1 - operand_value v c) (operand_is_wide sc widths wide 1 c h.0));
    })
    (choice_if w c a b (is_number b 0) ConditionAndFirst _
    (λ t. record {
      fit = λ ms sc h. (1, 1, one_wide, one_wide, h.0, subst (λ (k : ℕ). IsOperand sc k a) one h.1, refl, one);
      value = λ ms sc widths v wide below h.
          bit_with (operand_value v c) (operand_value v a) (operand_value v b) (operand_below sc v below 1 c h.0)
          (operand_below sc v below 1 a (subst (λ (k : ℕ). IsOperand sc k a) one h.1)) (number_is v b 0 t);
    })
    (choice_if w c a b (is_number a 1) ConditionOrSecond Keep
    (λ t. record {
      fit = λ ms sc h. (1, 1, one_wide, one_wide, h.0, subst (λ (k : ℕ). IsOperand sc k b) one h.2, refl, one);
      value = λ ms sc widths v wide below h.
          bit_or_other (operand_value v c) (operand_value v a) (operand_value v b) (operand_below sc v below 1 c h.0)
          (operand_below sc v below 1 b (subst (λ (k : ℕ). IsOperand sc k b) one h.2)) (number_is v a 1 t);
    })
    (keep w (Choose c a b)))))

choose_same : (w : ℕ) (c a b : Operand) → GoodChoice w c a b (fold_choose w c a b)
choose_same w c a b =
    choice_if w c a b (is_number c 0) Second _
    (λ t. record {
      fit = λ ms sc h. h.2;
      value = λ ms sc widths v wide below h. let i = test_of_zero (operand_value v c) (number_is v c 0 t) in rw i refl;
    })
    (choice_if w c a b (is_number c 1 || same_operand a b) First _
    (λ t. record {
      fit = λ ms sc h. h.1;
      value = λ ms sc widths v wide below h.
          or_elim (is_number c 1) (same_operand a b) (right_value widths v (Choose c a b) ≡ operand_value v a)
          (λ z. let i = one_test (operand_value v c) (number_is v c 1 z) in rw i refl)
          (λ z. both_same (operand_value v c == 0) (operand_value v a) (operand_value v b) (equal_values a b v z)) t;
    })
    (choice_if w c a b (w == 1) (fold_choose_bit a b) Keep
    (λ t. bits_same w c a b (equal_of_test w 1 t))
    (keep w (Choose c a b))))

pub folded_same : (w : ℕ) (r : Right) → Same w r (folded w r)
folded_same w (Copy a) = keep w (Copy a)
folded_same w (One op a) = one_same w op a
folded_same w (Two op a b) = two_same w op a b
folded_same w (Choose c a b) = choose_same w c a b
folded_same w (Concat os) = keep w (Concat os)
folded_same w (Slice x hi lo) = keep w (Slice x hi lo)
folded_same w (Cell m i) = keep w (Cell m i)

pub folded_equals : (ws : List Wire) (w : ℕ) (a b r : Right) → b ≡ folded w r → r ≡ a → Equals ws w a b
folded_equals ws w a b r e f =
    equals_from ws w a b (subst (Same w a) (sym (e ∙ ap (folded w) f)) (folded_same w a))
