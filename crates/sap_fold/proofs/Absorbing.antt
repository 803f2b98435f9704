-- `&` and `|` of an operand with a wire that reads it.
use Rattle.sap_lemmas.proofs.Common.{◌≡◌, ℕ, ◌==◌, ◌&&◌, List, Bool, true, false, sym, ap, ◌∙◌, subst, refl, inl, inr, arith, ◌⊎◌, if◌then◌else◌, bit_and, bit_or, or_zero_l, and_comm, or_comm, same_from_bits, bit_at_or, and_parts}
use Rattle.std.specs.Int.Bits.{or_self}
use Rattle.std.proofs.lemmas.Nat.Bits.{bit_at_and}
use Rattle.sap_bits.specs.Arithmetic.{value2, width2}
use Rattle.sap_bits.specs.declared.Op2.{Op2}
use Rattle.sap_bits.specs.declared.Op2.TheVariants.{And, Or}
use Rattle.sap_maps.specs.Prelude.{Name, Valuation, Scope, CountFits}
use Rattle.sap_net.specs.Prelude.{Shapes, IsOperand, readable_after, operand_value, operand_width, right_value}
use Rattle.sap_net.specs.declared.parts.Operand.{Operand}
use Rattle.sap_net.specs.declared.parts.Right.{Right}
use Rattle.sap_net.specs.declared.parts.Right.TheVariants.{Copy, Two, Choose}
use Rattle.sap_net.specs.declared.parts.Wire.{Wire}
use Rattle.sap_fold.specs.Equals.{Over, Equals}
use Rattle.sap_fold.specs.Seen.{Defines}
use Rattle.sap_fold.specs.Folding.{same_operand, is_number}
use Rattle.sap_fold.specs.Under.{IsBitwise}
use Rattle.sap_fold.specs.Absorbed.{is_one_of, is_or_zero, absorbed_and, absorbed_or, Absorbs}
use Rattle.sap_fold.specs.declared.rules.Outcome.{Outcome}
use Rattle.sap_fold.specs.declared.rules.Outcome.TheVariants.{Keep, First, Second}
use Rattle.sap_fold.proofs.Folds.{KeepsWidth, SameWidths, same_is, number_is}
use Rattle.sap_fold.proofs.Lists.{or_elim}
use Rattle.sap_fold.proofs.Sees.{defined_same}

-- numbers, bit by bit

and_and : (x y : ℕ) → bit_and (bit_and x y) x ≡ bit_and x y
and_and x y =
    same_from_bits (bit_and (bit_and x y) x) (bit_and x y) (λ i. let e = bit_at_and (bit_and x y) x i in let f = bit_at_and x y i in omega (arith, e, f))

and_or : (x y : ℕ) → bit_and (bit_or x y) x ≡ x
and_or x y =
    same_from_bits (bit_and (bit_or x y) x) x (λ i. let e = bit_at_and (bit_or x y) x i in let f = bit_at_or x y i in omega (arith, e, f))

or_or : (x y : ℕ) → bit_or (bit_or x y) x ≡ bit_or x y
or_or x y =
    same_from_bits (bit_or (bit_or x y) x) (bit_or x y) (λ i. let e = bit_at_or (bit_or x y) x i in let f = bit_at_or x y i in omega (arith, e, f))

or_and : (x y : ℕ) → bit_or (bit_and x y) x ≡ x
or_and x y =
    same_from_bits (bit_or (bit_and x y) x) x (λ i. let e = bit_at_or (bit_and x y) x i in let f = bit_at_and x y i in omega (arith, e, f))

-- an operator on operands of one width is its first or its second operand

two_first : (ws : List Wire) (u : ℕ) (op : Op2) (a b : Operand) → KeepsWidth op
    → ((widths : Name → ℕ) (v : Valuation) → (ms : Shapes) (sc : Scope) → Over ms sc ws widths v
    → right_value widths v (Two op a b) ≡ operand_value v a) → Equals ws u (Two op a b) (Copy a)
two_first ws u op a b keeps k =
    record {
      fits = λ ms sc f h. subst (λ (n : ℕ). IsOperand (readable_after sc ws) n a) (sym (h.7 ∙ keeps h.0)) h.4;
      same = λ ms sc widths v o h. k widths v ms sc o;
    }

two_second : (ws : List Wire) (u : ℕ) (op : Op2) (a b : Operand) → KeepsWidth op → SameWidths op
    → ((widths : Name → ℕ) (v : Valuation) → (ms : Shapes) (sc : Scope) → Over ms sc ws widths v
    → right_value widths v (Two op a b) ≡ operand_value v b) → Equals ws u (Two op a b) (Copy b)
two_second ws u op a b keeps same k =
    record {
      fits = λ ms sc f h. subst (λ (n : ℕ). IsOperand (readable_after sc ws) n b) (same h.0 h.1 h.6 ∙ sym (h.7 ∙ keeps h.0)) h.5;
      same = λ ms sc widths v o h. k widths v ms sc o;
    }

-- one of two operands is the other operand
one_of : (v : Valuation) (o x y : Operand) → is_one_of o x y ≡ true → (operand_value v x ≡ operand_value v o) ⊎ (operand_value v y ≡ operand_value v o)
one_of v o x y h =
    or_elim (same_operand x o) (same_operand y o) ((operand_value v x ≡ operand_value v o) ⊎ (operand_value v y ≡ operand_value v o))
    (λ t. inl (ap (operand_value v) (same_is x o t))) (λ t. inr (ap (operand_value v) (same_is y o t))) h

-- an outcome that stands where a test holds
absorbs_if : (ws : List Wire) (op : Op2) (a b : Operand) (t : Bool) (f : Outcome) → (t ≡ true → Absorbs ws op a b f) → Absorbs ws op a b (if t then f else Keep)
absorbs_if ws op a b true f h = h refl
absorbs_if ws op a b false f h = tt

-- f (g x y) o is g x y, or o, where o is x or y
inner : (f g : ℕ → ℕ → ℕ) → ((x y : ℕ) → g x y ≡ g y x) → ((x y : ℕ) → f (g x y) x ≡ g x y) → (x y o : ℕ) → (x ≡ o) ⊎ (y ≡ o) → f (g x y) o ≡ g x y
inner f g comm k x y o (inl e) = ap (f (g x y)) (sym e) ∙ k x y
inner f g comm k x y o (inr e) = ap (f (g x y)) (sym e) ∙ ap (λ (n : ℕ). f n y) (comm x y) ∙ k y x ∙ comm y x

outer : (f g : ℕ → ℕ → ℕ) → ((x y : ℕ) → g x y ≡ g y x) → ((x y : ℕ) → f (g x y) x ≡ x) → (x y o : ℕ) → (x ≡ o) ⊎ (y ≡ o) → f (g x y) o ≡ o
outer f g comm k x y o (inl e) = ap (f (g x y)) (sym e) ∙ k x y ∙ e
outer f g comm k x y o (inr e) = ap (f (g x y)) (sym e) ∙ ap (λ (n : ℕ). f n y) (comm x y) ∙ k y x ∙ e

pub absorbs_and : (ws : List Wire) (a b : Operand) (r : Right) → Defines ws a r → Absorbs ws And a b (absorbed_and r b)
absorbs_and ws a b (Two And x y) d =
    absorbs_if ws And a b (is_one_of b x y) First
    (λ t u. two_first ws u And a b (λ n. refl)
    (λ widths v ms sc o.
    let e : operand_value v a ≡ bit_and (operand_value v x) (operand_value v y) = defined_same widths v ws a (Two And x y) o.holds d in
    ap (λ (n : ℕ). bit_and n (operand_value v b)) e
    ∙ inner bit_and bit_and and_comm and_and (operand_value v x) (operand_value v y) (operand_value v b) (one_of v b x y t) ∙ sym e))
absorbs_and ws a b (Two Or x y) d =
    absorbs_if ws And a b (is_one_of b x y) Second
    (λ t u. two_second ws u And a b (λ n. refl) (λ n m c. c)
    (λ widths v ms sc o.
    let e : operand_value v a ≡ bit_or (operand_value v x) (operand_value v y) = defined_same widths v ws a (Two Or x y) o.holds d in
    ap (λ (n : ℕ). bit_and n (operand_value v b)) e ∙ outer bit_and bit_or or_comm and_or (operand_value v x) (operand_value v y) (operand_value v b) (one_of v b x y t)))
absorbs_and ws a b _ d = tt

chosen_or_zero : (t : Bool) (o x y : ℕ) → ((x ≡ o) × (y ≡ 0)) ⊎ ((y ≡ o) × (x ≡ 0)) → bit_or (if t then y else x) o ≡ o
chosen_or_zero true o x y (inl e) = ap (λ (n : ℕ). bit_or n o) e.1 ∙ or_zero_l o
chosen_or_zero true o x y (inr e) = ap (λ (n : ℕ). bit_or n o) e.0 ∙ or_self o
chosen_or_zero false o x y (inl e) = ap (λ (n : ℕ). bit_or n o) e.0 ∙ or_self o
chosen_or_zero false o x y (inr e) = ap (λ (n : ℕ). bit_or n o) e.1 ∙ or_zero_l o

or_zero_is : (v : Valuation) (o x y : Operand) → is_or_zero o x y ≡ true
    → ((operand_value v x ≡ operand_value v o) × (operand_value v y ≡ 0)) ⊎ ((operand_value v y ≡ operand_value v o) × (operand_value v x ≡ 0))
or_zero_is v o x y h =
    or_elim (same_operand x o && is_number y 0) (same_operand y o && is_number x 0)
    (((operand_value v x ≡ operand_value v o) × (operand_value v y ≡ 0)) ⊎ ((operand_value v y ≡ operand_value v o) × (operand_value v x ≡ 0)))
    (λ t. let q = and_parts (same_operand x o) (is_number y 0) t in inl (ap (operand_value v) (same_is x o q.0), number_is v y 0 q.1))
    (λ t. let q = and_parts (same_operand y o) (is_number x 0) t in inr (ap (operand_value v) (same_is y o q.0), number_is v x 0 q.1)) h

pub absorbs_or : (ws : List Wire) (a b : Operand) (r : Right) → Defines ws a r → Absorbs ws Or a b (absorbed_or r b)
absorbs_or ws a b (Two Or x y) d =
    absorbs_if ws Or a b (is_one_of b x y) First
    (λ t u. two_first ws u Or a b (λ n. refl)
    (λ widths v ms sc o.
    let e : operand_value v a ≡ bit_or (operand_value v x) (operand_value v y) = defined_same widths v ws a (Two Or x y) o.holds d in
    ap (λ (n : ℕ). bit_or n (operand_value v b)) e ∙ inner bit_or bit_or or_comm or_or (operand_value v x) (operand_value v y) (operand_value v b) (one_of v b x y t) ∙ sym e))
absorbs_or ws a b (Two And x y) d =
    absorbs_if ws Or a b (is_one_of b x y) Second
    (λ t u. two_second ws u Or a b (λ n. refl) (λ n m c. c)
    (λ widths v ms sc o.
    let e : operand_value v a ≡ bit_and (operand_value v x) (operand_value v y) = defined_same widths v ws a (Two And x y) o.holds d in
    ap (λ (n : ℕ). bit_or n (operand_value v b)) e ∙ outer bit_or bit_and and_comm or_and (operand_value v x) (operand_value v y) (operand_value v b) (one_of v b x y t)))
absorbs_or ws a b (Choose c x y) d =
    absorbs_if ws Or a b (is_or_zero b x y) Second
    (λ t u. two_second ws u Or a b (λ n. refl) (λ n m k. k)
    (λ widths v ms sc o.
    let e : operand_value v a ≡ (if operand_value v c == 0 then operand_value v y else operand_value v x) = defined_same widths v ws a (Choose c x y) o.holds d in
    ap (λ (n : ℕ). bit_or n (operand_value v b)) e ∙ chosen_or_zero (operand_value v c == 0) (operand_value v b) (operand_value v x) (operand_value v y) (or_zero_is v b x y t)))
absorbs_or ws a b _ d = tt

-- the operands exchanged

turned : (ws : List Wire) (u : ℕ) (op : Op2) (f : ℕ → ℕ → ℕ) (a b : Operand) → SameWidths op → ((n m : ℕ) → n ≡ m → CountFits op n m)
    → ((n y z : ℕ) → value2 op n y z ≡ f y z) → ((y z : ℕ) → f y z ≡ f z y) → Equals ws u (Two op a b) (Two op b a)
turned ws u op f a b same count is comm =
    record {
      fits = λ ms sc g h. let e = same h.0 h.1 h.6 in (h.1, h.0, h.3, h.2, h.5, h.4, count h.1 h.0 e, h.7 ∙ ap (width2 op) (sym e));
      same = λ ms sc widths v o h. is (operand_width widths a) (operand_value v a) (operand_value v b)
          ∙ comm (operand_value v a) (operand_value v b) ∙ sym (is (operand_width widths b) (operand_value v b) (operand_value v a));
    }

turned_and : (ws : List Wire) (u : ℕ) (a b : Operand) → Equals ws u (Two And a b) (Two And b a)
turned_and ws u a b = turned ws u And bit_and a b (λ n m c. c) (λ n m e. sym e) (λ n y z. refl) and_comm

turned_or : (ws : List Wire) (u : ℕ) (a b : Operand) → Equals ws u (Two Or a b) (Two Or b a)
turned_or ws u a b = turned ws u Or bit_or a b (λ n m c. c) (λ n m e. sym e) (λ n y z. refl) or_comm

pub turned_both : (ws : List Wire) (u : ℕ) (op : Op2) (a b : Operand) → IsBitwise op → Equals ws u (Two op a b) (Two op b a)
turned_both ws u And a b h = turned_and ws u a b
turned_both ws u Or a b h = turned_or ws u a b
turned_both ws u _ a b h = absurd h
