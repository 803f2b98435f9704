-- Comparisons of an operand with `|` of it and another.
use Rattle.sap_lemmas.proofs.Common.{◌≡◌, ℕ, ◌+◌, ◌-◌, ◌*◌, ◌/◌, ◌%◌, ◌^◌, ◌<◌, ◌≤◌, ◌==◌, List, Option, Some, None, Bool, true, false, sym, ap, ap₂, ◌∙◌, subst, refl, inl, inr, arith, ◌⊎◌, if◌then◌else◌, nat_lt, nat_le, bit_or, IfSome, bit_at, or_comm, pow-add, add-mul, pow_pos, bit_at_or, cases_Bool, ltb-true, nat_tests, equal_of_test, test_of_equal}
use Rattle.std.proofs.lemmas.Nat.Bits.{bit_at-lt, same_from_bits_below, bit_at_above, bit_at_ones, bit_at_cat_low, bit_at_cat_high}
use Rattle.sap_net.proofs.RulesLemmas.{one_wide}
use Rattle.sap_bits.specs.Arithmetic.{slice_of}
use Rattle.sap_bits.specs.declared.Op1.TheVariants.{Not}
use Rattle.sap_bits.specs.declared.Op2.TheVariants.{Or, Eq, Ne, Lt, Le}
use Rattle.sap_bits.proofs.Within.{value2_below}
use Rattle.sap_maps.specs.Prelude.{Name, Valuation, Scope, find}
use Rattle.sap_net.specs.Prelude.{Shapes, IsWidth, IsOperand, IsRight, AreWires, readable_after, operand_value}
use Rattle.sap_net.specs.declared.parts.Operand.{Operand}
use Rattle.sap_net.specs.declared.parts.Operand.TheVariants.{Named, Constant}
use Rattle.sap_net.specs.declared.parts.Right.TheVariants.{One, Two, Slice}
use Rattle.sap_net.specs.declared.parts.Wire.{Wire}
use Rattle.sap_net.proofs.Within.{operand_below, operand_is_wide}
use Rattle.sap_fold.specs.Equals.{Over, Equals}
use Rattle.sap_fold.specs.Wires.{Provides}
use Rattle.sap_fold.specs.Gives.{Becomes}
use Rattle.sap_fold.specs.Seen.{Defines}
use Rattle.sap_fold.specs.Under.{other}
use Rattle.sap_fold.specs.Slices.{HasWidth}
use Rattle.sap_fold.specs.Order.{JoinedWith, AsksBit, EitherAsks, BitBeside}
use Rattle.sap_fold.proofs.Folds.{bit_cases}
use Rattle.sap_fold.proofs.Provided.{provided, provided_value, over_first}
use Rattle.sap_fold.proofs.Sees.{defined_right, defined_same}
use Rattle.sap_fold.proofs.Unders.{other_is}

-- tests

after : (j i : ℕ) → nat_lt j i ≡ false → (j == i) ≡ false → i + 1 ≤ j
after j i h d = grind (arith, nat_tests)

differ_test : (a b : ℕ) → (a ≡ b → ⊥) → (a == b) ≡ false
differ_test a b h =
    elim (cases_Bool (a == b)) [ inl t ↦ absurd (h (equal_of_test a b t)) | inr f ↦ f ]

-- bits of a number with one gap

two_pieces : (w n i : ℕ) → i < w → n + 2 ^ i ≡ 2 ^ w - 1 → n ≡ (2 ^ (w - (i + 1)) - 1) * 2 ^ (i + 1) + (2 ^ i - 1)
two_pieces w n i l e =
    let p : 2 ^ w ≡ 2 ^ (w - (i + 1)) * 2 ^ (i + 1) = let s : w ≡ w - (i + 1) + (i + 1) = omega (arith, l) in ap (λ (k : ℕ). 2 ^ k) s ∙ pow-add 2 (w - (i + 1)) (i + 1) in
    let q : 2 ^ (i + 1) ≡ 2 ^ i * 2 ^ 1 = pow-add 2 i 1 in
    let a = 2 ^ (w - (i + 1)) - 1 in
    let s : 2 ^ (w - (i + 1)) ≡ a + 1 = omega (arith, pow_pos (w - (i + 1))) in
    let r : 2 ^ (w - (i + 1)) * 2 ^ (i + 1) ≡ a * 2 ^ (i + 1) + 1 * 2 ^ (i + 1) = ap (λ (k : ℕ). k * 2 ^ (i + 1)) s ∙ add-mul a 1 (2 ^ (i + 1)) in
    omega (arith, e, p, q, r, pow_pos i)

low_ones : (i : ℕ) → 2 ^ i - 1 < 2 ^ (i + 1)
low_ones i = let q : 2 ^ (i + 1) ≡ 2 ^ i * 2 ^ 1 = pow-add 2 i 1 in omega (arith, q, pow_pos i)

gap_here : (w n i : ℕ) → i < w → n + 2 ^ i ≡ 2 ^ w - 1 → bit_at n i ≡ 0
gap_here w n i l e =
    let a = 2 ^ (w - (i + 1)) - 1 in
    ap (λ (m : ℕ). bit_at m i) (two_pieces w n i l e)
    ∙ bit_at_cat_low a (i + 1) (2 ^ i - 1) i (omega arith)
    ∙ bit_at_above (2 ^ i - 1) i i (omega (arith, pow_pos i)) (omega arith)

one_elsewhere : (w n i j : ℕ) → i < w → j < w → (j == i) ≡ false → n + 2 ^ i ≡ 2 ^ w - 1 → bit_at n j ≡ 1
one_elsewhere w n i j l h d e =
    let a = 2 ^ (w - (i + 1)) - 1 in
    let is = two_pieces w n i l e in
    elim (cases_Bool (nat_lt j i)) [
      | inl t ↦
          let b : j < i = ltb-true j i t in
          ap (λ (m : ℕ). bit_at m j) is ∙ bit_at_cat_low a (i + 1) (2 ^ i - 1) j (omega (arith, b)) ∙ bit_at_ones i j b
      | inr f ↦
          let b : i + 1 ≤ j = after j i f d in
          ap (λ (m : ℕ). bit_at m j) is ∙ bit_at_cat_high a (i + 1) (2 ^ i - 1) j (low_ones i) b ∙ bit_at_ones (w - (i + 1)) (j - (i + 1)) (omega (arith, b, h))
    ]

-- a number with one gap is equal to `|` of it and x just where x has 0 there

or_of_gap : (w n i x : ℕ) → x < 2 ^ w → i < w → n + 2 ^ i ≡ 2 ^ w - 1 → bit_at x i ≡ 0 → bit_or x n ≡ n
or_of_gap w n i x h l e z =
    let k : n < 2 ^ w = omega (arith, e, pow_pos i, pow_pos w) in
    same_from_bits_below w (bit_or x n) n (value2_below Or w x n h k) k
    (λ j b.
    elim (cases_Bool (j == i)) [
      | inl s ↦
          let p = bit_at_or x n j in
          let q : bit_at x j ≡ 0 = subst (λ (m : ℕ). bit_at x m ≡ 0) (sym (equal_of_test j i s)) z in
          omega (arith, p, q)
      | inr d ↦
          let p = bit_at_or x n j in
          let q = one_elsewhere w n i j l b d e in
          let r = bit_at-lt x j in
          omega (arith, p, q, r)
    ])

other_gap : (w n i x : ℕ) → i < w → n + 2 ^ i ≡ 2 ^ w - 1 → bit_at x i ≡ 1 → bit_or x n ≡ n → ⊥
other_gap w n i x l e z h =
    let p = bit_at_or x n i in
    let q = gap_here w n i l e in
    let r : bit_at (bit_or x n) i ≡ bit_at n i = ap (λ (m : ℕ). bit_at m i) h in
    absurd (omega (arith, p, q, r, z))

bit_of_two : (x i : ℕ) → (bit_at x i ≡ 0) ⊎ (bit_at x i ≡ 1)
bit_of_two x i = bit_cases (bit_at x i) (bit_at-lt x i)

-- value of `n == (x | n)` and of `n != (x | n)`
equal_gap : (w n i x : ℕ) → x < 2 ^ w → i < w → n + 2 ^ i ≡ 2 ^ w - 1 → (if n == bit_or x n then 1 else 0) ≡ 2 ^ 1 - 1 - bit_at x i
equal_gap w n i x h l e =
    elim (bit_of_two x i) [
      | inl z ↦ let t = test_of_equal n (bit_or x n) (sym (or_of_gap w n i x h l e z)) in rw (t, z) refl
      | inr z ↦ let t = differ_test n (bit_or x n) (λ s. other_gap w n i x l e z (sym s)) in rw (t, z) refl
    ]

unequal_gap : (w n i x : ℕ) → x < 2 ^ w → i < w → n + 2 ^ i ≡ 2 ^ w - 1 → (if n == bit_or x n then 0 else 1) ≡ bit_at x i
unequal_gap w n i x h l e =
    elim (bit_of_two x i) [
      | inl z ↦ let t = test_of_equal n (bit_or x n) (sym (or_of_gap w n i x h l e z)) in rw (t, z) refl
      | inr z ↦ let t = differ_test n (bit_or x n) (λ s. other_gap w n i x l e z (sym s)) in rw (t, z) refl
    ]

-- the operands of such a comparison

or_value : (v : Valuation) (a p x y : Operand) → ((x ≡ a) × (p ≡ y)) ⊎ ((y ≡ a) × (p ≡ x))
    → bit_or (operand_value v x) (operand_value v y) ≡ bit_or (operand_value v p) (operand_value v a)
or_value v a p x y (inl e) =
    or_comm (operand_value v x) (operand_value v y)
    ∙ ap₂ (λ (s t : Operand). bit_or (operand_value v s) (operand_value v t)) (sym e.1) e.0
or_value v a p x y (inr e) = ap₂ (λ (s t : Operand). bit_or (operand_value v s) (operand_value v t)) (sym e.1) e.0

rest_wide : (sc : Scope) (u t : ℕ) (a p x y : Operand) → t ≡ u → IsOperand sc u x → IsOperand sc t y → ((x ≡ a) × (p ≡ y)) ⊎ ((y ≡ a) × (p ≡ x)) → IsOperand sc u p
rest_wide sc u t a p x y s hx hy (inl e) =
    subst (IsOperand sc u) (sym e.1) (subst (λ (k : ℕ). IsOperand sc k y) s hy)
rest_wide sc u t a p x y s hx hy (inr e) = subst (IsOperand sc u) (sym e.1) hx

-- the other operand is as wide as the wire
joined_wide : (ms : Shapes) (sc : Scope) (ws : List Wire) (a b p : Operand) (u : ℕ) → AreWires ms sc ws → JoinedWith ws a b p
    → IsOperand (readable_after sc ws) u b → IsOperand (readable_after sc ws) u p
joined_wide ms sc ws a b p u f j h =
    let sd = readable_after sc ws in
    let r = defined_right ms sc ws b (Two Or j.first j.second) u f h j.defines in
    subst (λ (k : ℕ). IsOperand sd k p) (sym r.7) (rest_wide sd r.0 r.1 a p j.first j.second r.6 r.4 r.5 j.pair)

joined_value : (widths : Name → ℕ) (v : Valuation) (ms : Shapes) (sc : Scope) (ws : List Wire) (a b p : Operand) → Over ms sc ws widths v
    → JoinedWith ws a b p → operand_value v b ≡ bit_or (operand_value v p) (operand_value v a)
joined_value widths v ms sc ws a b p o j =
    defined_same widths v ws b (Two Or j.first j.second) o.holds j.defines ∙ or_value v a p j.first j.second j.pair

-- What is known of a comparison of operands of width u that asks for the bit k of x.
record Asked (sd : Scope) (v : Valuation) (u : ℕ) (a b : Operand) (x : Name) (k n : ℕ) : Type 0 where
  found : find sd x ≡ Some u
  place : k < u
  gap : n + 2 ^ k ≡ 2 ^ u - 1
  small : v.value x < 2 ^ u
  first : operand_value v a ≡ n
  second : operand_value v b ≡ bit_or (v.value x) n

asked : (ms : Shapes) (sc : Scope) (ws : List Wire) (widths : Name → ℕ) (v : Valuation) (a b : Operand) (x : Name) (k u : ℕ)
    → Over ms sc ws widths v → (q : AsksBit ws a b x k) → IsOperand (readable_after sc ws) u a → IsOperand (readable_after sc ws) u b
    → Asked (readable_after sc ws) v u a b x k q.number.value
asked ms sc ws widths v a b x k u o q ha hb =
    let g = q.number in
    let c : IsOperand (readable_after sc ws) u (Constant g.width g.value) = subst (IsOperand (readable_after sc ws) u) g.is ha in
    let f = joined_wide ms sc ws a b (Named x) u o.wires q.joined hb in
    let e : operand_value v a ≡ g.value = ap (operand_value v) g.is in
    record {
      found = f;
      place = omega (arith, g.place, c.0);
      gap = g.gap ∙ ap (λ (m : ℕ). 2 ^ m - 1) c.0;
      small = o.below x u f;
      first = e;
      second = joined_value widths v ms sc ws a b (Named x) o q.joined ∙ ap (bit_or (v.value x)) e;
    }

-- where it fits
record AskFits (sd : Scope) (u : ℕ) (x : Name) (k : ℕ) : Type 0 where
  found : find sd x ≡ Some u
  place : k < u

ask_fits : (ms : Shapes) (sc : Scope) (ws : List Wire) (a b : Operand) (x : Name) (k u : ℕ) → AreWires ms sc ws → AsksBit ws a b x k
    → IsOperand (readable_after sc ws) u a → IsOperand (readable_after sc ws) u b → AskFits (readable_after sc ws) u x k
ask_fits ms sc ws a b x k u f q ha hb =
    let g = q.number in
    let c : IsOperand (readable_after sc ws) u (Constant g.width g.value) = subst (IsOperand (readable_after sc ws) u) g.is ha in
    record { found = joined_wide ms sc ws a b (Named x) u f q.joined hb; place = omega (arith, g.place, c.0) }

either_fits : (ms : Shapes) (sc : Scope) (ws : List Wire) (a b : Operand) (x : Name) (k u : ℕ) → AreWires ms sc ws → EitherAsks ws a b x k
    → IsOperand (readable_after sc ws) u a → IsOperand (readable_after sc ws) u b → AskFits (readable_after sc ws) u x k
either_fits ms sc ws a b x k u f (inl q) ha hb = ask_fits ms sc ws a b x k u f q ha hb
either_fits ms sc ws a b x k u f (inr q) ha hb = ask_fits ms sc ws b a x k u f q hb ha

one_bit : (n k : ℕ) → slice_of n k k ≡ bit_at n k
one_bit n k =
    let e : k + 1 - k ≡ 1 = omega arith in ap (λ (m : ℕ). n / 2 ^ k % 2 ^ m) e

not_both : (t : Bool) → t ≡ true → t ≡ false → ⊥
not_both true e f = absurd (cc)
not_both false e f = absurd (cc)

turned_test : (a b x y : ℕ) → (if a == b then x else y) ≡ (if b == a then x else y)
turned_test a b x y =
    elim (cases_Bool (a == b)) [
      | inl t ↦ let s = test_of_equal b a (sym (equal_of_test a b t)) in rw (t, s) refl
      | inr f ↦ let s = differ_test b a (λ e. not_both (a == b) (test_of_equal a b (sym e)) f) in rw (f, s) refl
    ]

either_unequal : (ms : Shapes) (sc : Scope) (ws : List Wire) (widths : Name → ℕ) (v : Valuation) (a b : Operand) (x : Name) (k u : ℕ)
    → Over ms sc ws widths v → EitherAsks ws a b x k → IsOperand (readable_after sc ws) u a → IsOperand (readable_after sc ws) u b
    → (if operand_value v a == operand_value v b then 0 else 1) ≡ bit_at (v.value x) k
either_unequal ms sc ws widths v a b x k u o (inl q) ha hb =
    let s = asked ms sc ws widths v a b x k u o q ha hb in
    ap₂ (λ (m n : ℕ). if m == n then 0 else 1) s.first s.second ∙ unequal_gap u q.number.value k (v.value x) s.small s.place s.gap
either_unequal ms sc ws widths v a b x k u o (inr q) ha hb =
    let s = asked ms sc ws widths v b a x k u o q hb ha in
    turned_test (operand_value v a) (operand_value v b) 0 1
    ∙ ap₂ (λ (m n : ℕ). if m == n then 0 else 1) s.first s.second ∙ unequal_gap u q.number.value k (v.value x) s.small s.place s.gap

either_equal : (ms : Shapes) (sc : Scope) (ws : List Wire) (widths : Name → ℕ) (v : Valuation) (a b : Operand) (x : Name) (k u : ℕ)
    → Over ms sc ws widths v → EitherAsks ws a b x k → IsOperand (readable_after sc ws) u a → IsOperand (readable_after sc ws) u b
    → (if operand_value v a == operand_value v b then 1 else 0) ≡ 2 ^ 1 - 1 - bit_at (v.value x) k
either_equal ms sc ws widths v a b x k u o (inl q) ha hb =
    let s = asked ms sc ws widths v a b x k u o q ha hb in
    ap₂ (λ (m n : ℕ). if m == n then 1 else 0) s.first s.second ∙ equal_gap u q.number.value k (v.value x) s.small s.place s.gap
either_equal ms sc ws widths v a b x k u o (inr q) ha hb =
    let s = asked ms sc ws widths v b a x k u o q hb ha in
    turned_test (operand_value v a) (operand_value v b) 1 0
    ∙ ap₂ (λ (m n : ℕ). if m == n then 1 else 0) s.first s.second ∙ equal_gap u q.number.value k (v.value x) s.small s.place s.gap

slice_fits : (ms : Shapes) (sc : Scope) (ws : List Wire) (a b : Operand) (x : Name) (k u t : ℕ) → AreWires ms sc ws → IsWidth u
    → EitherAsks ws a b x k → IsOperand (readable_after sc ws) u a → IsOperand (readable_after sc ws) u b → t ≡ 1 → IsRight ms (readable_after sc ws) t (Slice x k k)
slice_fits ms sc ws a b x k u t f w q ha hb e =
    let s = either_fits ms sc ws a b x k u f q ha hb in (u, w, s.found, omega arith, s.place, omega (arith, e))

pub unequal_bit : (ws : List Wire) (u : ℕ) (a b : Operand) (x : Name) (k : ℕ) → EitherAsks ws a b x k → Equals ws u (Two Ne a b) (Slice x k k)
unequal_bit ws u a b x k q =
    record {
      fits = λ ms sc f h. slice_fits ms sc ws a b x k h.0 u f h.2 q h.4 (subst (λ (n : ℕ). IsOperand (readable_after sc ws) n b) h.6 h.5) h.7;
      same = λ ms sc widths v o h.
          either_unequal ms sc ws widths v a b x k h.0 o q h.4 (subst (λ (n : ℕ). IsOperand (readable_after sc ws) n b) h.6 h.5) ∙ sym (one_bit (v.value x) k);
    }

pub equal_bit : (taken : Name → Bool) (ws : List Wire) (next u : ℕ) (a b : Operand) (x : Name) (k : ℕ) (p : Operand) (after : List Wire)
    (na : ℕ) → EitherAsks ws a b x k → Provides taken ws next 1 (Slice x k k) p after na → Becomes taken ws next u (Two Eq a b) (One Not p) after na
equal_bit taken ws next u a b x k p after na q g =
    let other : (ms : Shapes) (sc : Scope) → (h : IsRight ms (readable_after sc ws) u (Two Eq a b))
    → IsOperand (readable_after sc ws) h.0 b = λ ms sc h. subst (λ (n : ℕ). IsOperand (readable_after sc ws) n b) h.6 h.5 in
    record {
      grown = λ ms sc s h.
          let d = provided taken ms sc ws next 1 (Slice x k k) p after na s.apart s.named s.fits one_wide
          (slice_fits ms sc ws a b x k h.0 1 s.fits h.2 q h.4 (other ms sc h) refl) g in
          record { fits = d.fits; named = d.named; more = d.more; wires = d.wires };
      fits = λ ms sc s h.
          let d = provided taken ms sc ws next 1 (Slice x k k) p after na s.apart s.named s.fits one_wide
          (slice_fits ms sc ws a b x k h.0 1 s.fits h.2 q h.4 (other ms sc h) refl) g in
          (1, one_wide, d.operand, h.7);
      same = λ ms sc widths v s h over.
          let d = provided taken ms sc ws next 1 (Slice x k k) p after na s.apart s.named s.fits one_wide
          (slice_fits ms sc ws a b x k h.0 1 s.fits h.2 q h.4 (other ms sc h) refl) g in
          let before = over_first ms sc ws after d.more widths v d.wires over in
          let e : operand_value v p ≡ bit_at (v.value x) k = provided_value taken widths v ws next 1 (Slice x k k) p after na g over.holds ∙ one_bit (v.value x) k in
          either_equal ms sc ws widths v a b x k h.0 before q h.4 (other ms sc h)
          ∙ ap₂ (λ (m n : ℕ). 2 ^ m - 1 - n) (sym (operand_is_wide (readable_after sc after) widths over.wide 1 p d.operand)) (sym e);
    }

-- bits

at_most_or : (x y : ℕ) → x < 2 ^ 1 → y < 2 ^ 1 → ◌≡◌ {A = ℕ} (if x == bit_or y x then 1 else 0) (if nat_le y x then 1 else 0)
at_most_or x y h k =
    elim (bit_cases y k) [
      | inl e ↦ elim (bit_cases x h) [ inl f ↦ rw (e, f) refl | inr f ↦ rw (e, f) refl ]
      | inr e ↦ elim (bit_cases x h) [ inl f ↦ rw (e, f) refl | inr f ↦ rw (e, f) refl ]
    ]

less_or : (x y : ℕ) → x < 2 ^ 1 → y < 2 ^ 1 → ◌≡◌ {A = ℕ} (if x == bit_or y x then 0 else 1) (if nat_lt x y then 1 else 0)
less_or x y h k =
    elim (bit_cases y k) [
      | inl e ↦ elim (bit_cases x h) [ inl f ↦ rw (e, f) refl | inr f ↦ rw (e, f) refl ]
      | inr e ↦ elim (bit_cases x h) [ inl f ↦ rw (e, f) refl | inr f ↦ rw (e, f) refl ]
    ]

-- two operands of one bit, and the one beside
record Bits (sd : Scope) (a p : Operand) : Type 0 where
  first : IsOperand sd 1 a
  rest : IsOperand sd 1 p

bits_of : (ms : Shapes) (sc : Scope) (ws : List Wire) (a b p : Operand) (u : ℕ) → AreWires ms sc ws → BitBeside ws a b p
    → IsOperand (readable_after sc ws) u a → IsOperand (readable_after sc ws) u b → Bits (readable_after sc ws) a p
bits_of ms sc ws a b p u f q ha hb =
    let e : u ≡ 1 = q.wide ms sc u f hb in
    record {
      first = subst (λ (n : ℕ). IsOperand (readable_after sc ws) n a) e ha;
      rest = subst (λ (n : ℕ). IsOperand (readable_after sc ws) n p) e (joined_wide ms sc ws a b p u f q.joined hb);
    }

pub equal_order : (ws : List Wire) (u : ℕ) (a b p : Operand) → BitBeside ws a b p → Equals ws u (Two Eq a b) (Two Le p a)
equal_order ws u a b p q =
    let other : (ms : Shapes) (sc : Scope) → (h : IsRight ms (readable_after sc ws) u (Two Eq a b))
    → IsOperand (readable_after sc ws) h.0 b = λ ms sc h. subst (λ (n : ℕ). IsOperand (readable_after sc ws) n b) h.6 h.5 in
    record {
      fits = λ ms sc f h.
          let s = bits_of ms sc ws a b p h.0 f q h.4 (other ms sc h) in (1, 1, one_wide, one_wide, s.rest, s.first, refl, h.7);
      same = λ ms sc widths v o h.
          let s = bits_of ms sc ws a b p h.0 o.wires q h.4 (other ms sc h) in
          let sd = readable_after sc ws in
          ap (λ (n : ℕ). if operand_value v a == n then 1 else 0) (joined_value widths v ms sc ws a b p o q.joined)
          ∙ at_most_or (operand_value v a) (operand_value v p) (operand_below sd v o.below 1 a s.first) (operand_below sd v o.below 1 p s.rest);
    }

pub unequal_order : (ws : List Wire) (u : ℕ) (a b p : Operand) → BitBeside ws a b p → Equals ws u (Two Ne a b) (Two Lt a p)
unequal_order ws u a b p q =
    let other : (ms : Shapes) (sc : Scope) → (h : IsRight ms (readable_after sc ws) u (Two Ne a b))
    → IsOperand (readable_after sc ws) h.0 b = λ ms sc h. subst (λ (n : ℕ). IsOperand (readable_after sc ws) n b) h.6 h.5 in
    record {
      fits = λ ms sc f h.
          let s = bits_of ms sc ws a b p h.0 f q h.4 (other ms sc h) in (1, 1, one_wide, one_wide, s.first, s.rest, refl, h.7);
      same = λ ms sc widths v o h.
          let s = bits_of ms sc ws a b p h.0 o.wires q h.4 (other ms sc h) in
          let sd = readable_after sc ws in
          ap (λ (n : ℕ). if operand_value v a == n then 0 else 1) (joined_value widths v ms sc ws a b p o q.joined)
          ∙ less_or (operand_value v a) (operand_value v p) (operand_below sd v o.below 1 a s.first) (operand_below sd v o.below 1 p s.rest);
    }

pub equal_turned : (ws : List Wire) (u : ℕ) (a b : Operand) → Equals ws u (Two Eq a b) (Two Eq b a)
equal_turned ws u a b =
    record {
      fits = λ ms sc f h. (h.1, h.0, h.3, h.2, h.5, h.4, sym h.6, h.7);
      same = λ ms sc widths v o h. turned_test (operand_value v a) (operand_value v b) 1 0;
    }

pub unequal_turned : (ws : List Wire) (u : ℕ) (a b : Operand) → Equals ws u (Two Ne a b) (Two Ne b a)
unequal_turned ws u a b =
    record {
      fits = λ ms sc f h. (h.1, h.0, h.3, h.2, h.5, h.4, sym h.6, h.7);
      same = λ ms sc widths v o h. turned_test (operand_value v a) (operand_value v b) 0 1;
    }

-- what the other operand of a wire tells
pub some_joined : (ws : List Wire) (a b x y : Operand) (m : Option Operand) → Defines ws b (Two Or x y) → m ≡ other a x y → IfSome m (λ p. JoinedWith ws a b p)
some_joined ws a b x y None d h = tt
some_joined ws a b x y (Some p) d h =
    record { first = x; second = y; defines = d; pair = other_is a x y p (sym h) }

pub some_beside : (ws : List Wire) (a b : Operand) (m : Option Operand) → HasWidth ws b 1 → IfSome m (λ p. JoinedWith ws a b p) → IfSome m (λ p. BitBeside ws a b p)
some_beside ws a b None h j = tt
some_beside ws a b (Some p) h j = record { wide = h; joined = j }
