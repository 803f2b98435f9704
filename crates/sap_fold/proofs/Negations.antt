-- `&` and `|` of a negation as choices, and choices between 0 and a bit.
use Rattle.sap_lemmas.proofs.Common.{◌≡◌, ℕ, ◌-◌, ◌^◌, ◌<◌, ◌==◌, List, Bool, false, true, sym, ap, ◌∙◌, subst, inl, inr, refl, arith, bit_and, if◌then◌else◌, and_zero_l, and_comm, or_comm, cases_Bool}
use Rattle.sap_bits.specs.Arithmetic.{value2}
use Rattle.sap_bits.specs.declared.Op1.TheVariants.{Not}
use Rattle.sap_bits.specs.declared.Op2.{Op2}
use Rattle.sap_bits.specs.declared.Op2.TheVariants.{And, Or}
use Rattle.sap_maps.specs.Prelude.{Name, Valuation, Scope}
use Rattle.sap_net.specs.Prelude.{Shapes, IsOperand, IsRight, readable_after, operand_value, operand_width}
use Rattle.sap_net.specs.declared.parts.Operand.{Operand}
use Rattle.sap_net.specs.declared.parts.Right.TheVariants.{Copy, One, Two, Choose}
use Rattle.sap_net.specs.declared.parts.Wire.{Wire}
use Rattle.sap_net.proofs.Within.{operand_below, operand_is_wide}
use Rattle.sap_net.proofs.RulesLemmas.{operand_grows}
use Rattle.sap_fold.specs.Equals.{Equals}
use Rattle.sap_fold.specs.Folding.{is_number, same_operand}
use Rattle.sap_fold.specs.Gives.{ArmGives, Becomes}
use Rattle.sap_fold.specs.Seen.{Defines}
use Rattle.sap_fold.specs.Under.{number, bit, IsBitwise, chosen_by, is_masked, masked_right, Under}
use Rattle.sap_fold.proofs.Folds.{KeepsWidth, SameWidths, same_is, number_is, bit_cases, one_and}
use Rattle.sap_fold.proofs.Provided.{grows_more, over_first}
use Rattle.sap_fold.proofs.Sees.{defined_right, defined_same, equals_both, equals_itself}
use Rattle.sap_fold.proofs.Unders.{bit_fits, one_width}

and_negated : (c d y : ℕ) → d < 2 ^ 1 → y < 2 ^ 1 → c ≡ 2 ^ 1 - 1 - d → bit_and c y ≡ (if d == 0 then y else 0)
and_negated c d y h k e =
    elim (bit_cases d h) [
      | inl z ↦ rw (e, z) (one_and y k)
      | inr z ↦ rw (e, z) (and_zero_l y)
    ]

-- a choice by d that has the value of an operator on the negation of d and b
abbrev IsChoice : (f : ℕ → ℕ → ℕ) (p q b : Operand) → Type 0
IsChoice f p q b = (v : Valuation) (c d : ℕ) → d < 2 ^ 1 → operand_value v b < 2 ^ 1 → c ≡ 2 ^ 1 - 1 - d
    → f c (operand_value v b) ≡ (if d == 0 then operand_value v q else operand_value v p)

choice_equals : (ws : List Wire) (op : Op2) (f : ℕ → ℕ → ℕ) (a d b p q : Operand) → KeepsWidth op → SameWidths op
    → ((u y z : ℕ) → value2 op u y z ≡ f y z) → ((sc : Scope) → IsOperand sc 1 b → IsOperand sc 1 p × IsOperand sc 1 q) → IsChoice f p q b
    → Defines ws a (One Not d) → Equals ws 1 (Two op a b) (Choose d p q)
choice_equals ws op f a d b p q keeps same is arms choice k =
    let ha : (ms : Shapes) (sc : Scope) → IsRight ms sc 1 (Two op a b) → IsOperand sc 1 a = λ ms sc h. subst (λ (n : ℕ). IsOperand sc n a) (sym (h.7 ∙ keeps h.0)) h.4 in
    let hb : (ms : Shapes) (sc : Scope) → IsRight ms sc 1 (Two op a b) → IsOperand sc 1 b =
    λ ms sc h. subst (λ (n : ℕ). IsOperand sc n b) (same h.0 h.1 h.6 ∙ sym (h.7 ∙ keeps h.0)) h.5 in
    record {
      fits = λ ms sc g h.
          let sd = readable_after sc ws in
          let r = defined_right ms sc ws a (One Not d) 1 g (ha ms sd h) k in
          let i = arms sd (hb ms sd h) in
          (subst (λ (n : ℕ). IsOperand sd n d) (sym r.3) r.2, i.0, i.1);
      same = λ ms sc widths v o h.
          let sd = readable_after sc ws in
          let r = defined_right ms sc ws a (One Not d) 1 o.wires (ha ms sd h) k in
          let hd : IsOperand sd 1 d = subst (λ (n : ℕ). IsOperand sd n d) (sym r.3) r.2 in
          let ld : operand_value v d < 2 ^ 1 = operand_below sd v o.below 1 d hd in
          let lb : operand_value v b < 2 ^ 1 = operand_below sd v o.below 1 b (hb ms sd h) in
          let e : operand_value v a ≡ 2 ^ 1 - 1 - operand_value v d =
          defined_same widths v ws a (One Not d) o.holds k ∙ ap (λ (n : ℕ). 2 ^ n - 1 - operand_value v d) (operand_is_wide sd widths o.wide 1 d hd) in
          is (operand_width widths a) (operand_value v a) (operand_value v b) ∙ choice v (operand_value v a) (operand_value v d) ld lb e;
    }

-- the first operand is a negation
pub negated_first : (ws : List Wire) (op : Op2) (a d b : Operand) → IsBitwise op → Defines ws a (One Not d) → Equals ws 1 (Two op a b) (chosen_by op a d b)
negated_first ws And a d b bits k =
    choice_equals ws And bit_and a d b (bit false) b (λ u. refl) (λ u y z. z) (λ u y z. refl) (λ sc h. (bit_fits sc 1 false refl, h))
    (λ v c x. and_negated c x (operand_value v b)) k
negated_first ws Or a d b bits k = equals_itself ws 1 (Two Or a b)
negated_first ws _ a d b bits k = absurd bits

bits_turned : (ws : List Wire) (u : ℕ) (op : Op2) (a b : Operand) → IsBitwise op → Equals ws u (Two op a b) (Two op b a)
bits_turned ws u And a b bits =
    record {
      fits = λ ms sc f h. (h.1, h.0, h.3, h.2, h.5, h.4, sym h.6, h.7 ∙ sym h.6);
      same = λ ms sc widths v o h. and_comm (operand_value v a) (operand_value v b);
    }
bits_turned ws u Or a b bits =
    record {
      fits = λ ms sc f h. (h.1, h.0, h.3, h.2, h.5, h.4, sym h.6, h.7 ∙ sym h.6);
      same = λ ms sc widths v o h. or_comm (operand_value v a) (operand_value v b);
    }
bits_turned ws u _ a b bits = absurd bits

-- the second operand is a negation
pub negated_second : (ws : List Wire) (op : Op2) (a b d : Operand) → IsBitwise op → Defines ws b (One Not d) → Equals ws 1 (Two op a b) (chosen_by op b d a)
negated_second ws op a b d bits k =
    equals_both ws 1 (Two op a b) (Two op b a) (chosen_by op b d a) (bits_turned ws 1 op a b bits) (negated_first ws op b d a bits k)

-- a choice between 0 and the bit that is known

masked_is : (c a b : Operand) → is_masked c a b ≡ true → (is_number a 0 ≡ true) × (b ≡ c)
masked_is c a b h =
    elim (cases_Bool (is_number a 0)) [
      | inl t ↦ let g : same_operand b c ≡ true = rw t at h in (t, same_is b c g)
      | inr f ↦ absurd (let g : false ≡ true = rw f at h in cc)
    ]

masked_value : (d x y : ℕ) → d < 2 ^ 1 → x ≡ 0 → y ≡ 1 → (if d == 0 then y else x) ≡ 2 ^ 1 - 1 - d
masked_value d x y h i k =
    elim (bit_cases d h) [
      | inl z ↦ rw (z, k) refl
      | inr z ↦ rw (z, i) refl
    ]

masked_zero : (d x y : ℕ) → d < 2 ^ 1 → x ≡ 0 → y ≡ 0 → (if d == 0 then y else x) ≡ 0
masked_zero d x y h i k =
    elim (bit_cases d h) [
      | inl z ↦ rw (z, k) refl
      | inr z ↦ rw (z, i) refl
    ]

-- where the bit is 1, the negation of what it chooses by; where it is 0, that
pub masked_one : (ws : List Wire) (c x d a b : Operand) → Defines ws x (Choose d a b) → is_masked c a b ≡ true → Under ws c (number true) x (One Not d)
masked_one ws c x d a b k m =
    let e = masked_is c a b m in
    record {
      fits = λ ms sc u f hc hx.
          let sd = readable_after sc ws in
          let r = defined_right ms sc ws x (Choose d a b) u f hx k in
          let w = one_width sd u 1 c (subst (IsOperand sd u) e.1 r.2) hc in
          (1, omega arith, r.0, w);
      same = λ ms sc widths v u o hc hx n.
          let sd = readable_after sc ws in
          let r = defined_right ms sc ws x (Choose d a b) u o.wires hx k in
          let l : operand_value v d < 2 ^ 1 = operand_below sd v o.below 1 d r.0 in
          defined_same widths v ws x (Choose d a b) o.holds k
          ∙ masked_value (operand_value v d) (operand_value v a) (operand_value v b) l (number_is v a 0 e.0) (ap (operand_value v) e.1 ∙ n)
          ∙ ap (λ (i : ℕ). 2 ^ i - 1 - operand_value v d) (sym (operand_is_wide sd widths o.wide 1 d r.0));
    }

pub masked_none : (ws : List Wire) (c x d a b : Operand) → Defines ws x (Choose d a b) → is_masked c a b ≡ true → Under ws c (number false) x (Copy (bit false))
masked_none ws c x d a b k m =
    let e = masked_is c a b m in
    record {
      fits = λ ms sc u f hc hx.
          let sd = readable_after sc ws in
          let r = defined_right ms sc ws x (Choose d a b) u f hx k in
          bit_fits sd u false (one_width sd u 1 c (subst (IsOperand sd u) e.1 r.2) hc);
      same = λ ms sc widths v u o hc hx n.
          let sd = readable_after sc ws in
          let r = defined_right ms sc ws x (Choose d a b) u o.wires hx k in
          let l : operand_value v d < 2 ^ 1 = operand_below sd v o.below 1 d r.0 in
          defined_same widths v ws x (Choose d a b) o.holds k
          ∙ masked_zero (operand_value v d) (operand_value v a) (operand_value v b) l (number_is v a 0 e.0) (ap (operand_value v) e.1 ∙ n);
    }

pub masked : (ws : List Wire) (c x d a b : Operand) (t : Bool) → Defines ws x (Choose d a b) → is_masked c a b ≡ true → Under ws c (number t) x (masked_right t d)
masked ws c x d a b true k m = masked_one ws c x d a b k m
masked ws c x d a b false k m = masked_none ws c x d a b k m

-- a choice between 0 and a bit: its condition counts only where the bit is 1
pub condition_becomes : (taken : Name → Bool) (ws : List Wire) (next u : ℕ) (c p a b : Operand) (after : List Wire) (na : ℕ) → u ≡ 1
    → is_number a 0 ≡ true → ArmGives taken ws next u b 1 c p after na → Becomes taken ws next u (Choose c a b) (Choose p a b) after na
condition_becomes taken ws next u c p a b after na wide zero d =
    let as_bit : (sc : Scope) (k : ℕ) (o : Operand) → k ≡ 1 → IsOperand sc k o → IsOperand sc 1 o = λ sc k o e h. subst (λ (j : ℕ). IsOperand sc j o) e h in
    let as_wide : (sc : Scope) (o : Operand) → IsOperand sc 1 o → IsOperand sc u o = λ sc o h. subst (λ (j : ℕ). IsOperand sc j o) (sym wide) h in
    record {
      grown = λ ms sc s h.
          let g = d.fits ms sc s (as_bit (readable_after sc ws) u b wide h.2) (as_wide (readable_after sc ws) c h.0) in
          record { fits = g.fits; named = g.named; more = g.more; wires = g.wires };
      fits = λ ms sc s h.
          let g = d.fits ms sc s (as_bit (readable_after sc ws) u b wide h.2) (as_wide (readable_after sc ws) c h.0) in
          let m = grows_more ms sc ws after g.more g.wires g.fits in
          (as_bit (readable_after sc after) u p wide g.operand, operand_grows _ _ m u a h.1, operand_grows _ _ m u b h.2);
      same = λ ms sc widths v s h over.
          let hb = as_bit (readable_after sc ws) u b wide h.2 in
          let hc = as_wide (readable_after sc ws) c h.0 in
          let g = d.fits ms sc s hb hc in
          let first = over_first ms sc ws after g.more widths v g.wires over in
          let vb : operand_value v b < 2 ^ 1 = operand_below (readable_after sc ws) v first.below 1 b hb in
          let vc : operand_value v c < 2 ^ 1 = operand_below (readable_after sc ws) v first.below 1 c h.0 in
          let vp : operand_value v p < 2 ^ 1 = operand_below (readable_after sc after) v over.below 1 p (as_bit (readable_after sc after) u p wide g.operand) in
          elim (bit_cases (operand_value v b) vb) [
            | inl e ↦
                masked_zero (operand_value v c) (operand_value v a) (operand_value v b) vc (number_is v a 0 zero) e
                ∙ sym (masked_zero (operand_value v p) (operand_value v a) (operand_value v b) vp (number_is v a 0 zero) e)
            | inr e ↦ ap (λ (x : ℕ). if x == 0 then operand_value v b else operand_value v a) (d.same ms sc widths v s hb hc over e)
          ];
    }
