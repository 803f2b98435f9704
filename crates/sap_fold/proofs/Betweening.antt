-- A choice between two numbers, bit by bit.
use Rattle.sap_lemmas.proofs.Common.{◌≡◌, ℕ, ◌+◌, ◌-◌, ◌*◌, ◌/◌, ◌%◌, ◌^◌, ◌<◌, ◌≤◌, ◌==◌, List, [], ◌∷◌, ◌++◌, length, Some, None, Bool, true, false, sym, ap, ap₂, ◌∙◌, subst, refl, inl, inr, arith, if◌then◌else◌, mod-lt, nat_tests, equal_of_test}
use Rattle.std.proofs.Math.Nat.{div-eq_of_lt, div-add-mod}
use Rattle.std.proofs.lemmas.Nat.{shr-shr}
use Rattle.sap_net.proofs.RulesLemmas.{one_wide}
use Rattle.sap_maps.specs.Prelude.{Valuation, Scope}
use Rattle.sap_net.specs.Prelude.{IsOperand, AreOperands, readable_after, operand_value, operands_width, operands_value}
use Rattle.sap_net.specs.declared.parts.Operand.{Operand}
use Rattle.sap_net.specs.declared.parts.Operand.TheVariants.{Named, Constant}
use Rattle.sap_net.specs.declared.parts.Right.TheVariants.{Choose, Concat}
use Rattle.sap_net.specs.declared.parts.Wire.{Wire}
use Rattle.sap_net.proofs.Within.{operand_below}
use Rattle.sap_fold.specs.Equals.{Equals}
use Rattle.sap_fold.specs.Under.{number, bit}
use Rattle.sap_fold.specs.Parts.{AddsPart, between, bit_test, number_in, Between}
use Rattle.sap_fold.proofs.Folds.{bit_cases}
use Rattle.sap_fold.proofs.Parting.{are_both, one_are, one_value, values_both, parts_wide, glue_same}
use Rattle.sap_fold.proofs.Unders.{bit_fits}

abbrev Chosen : (x b a : ℕ) → ℕ
Chosen x b a = if x == 0 then b else a

same_chosen : (t : Bool) (a n : ℕ) (b : ℕ) → a ≡ n → b ≡ n → n ≡ (if t then b else a)
same_chosen true a n b e f = sym f
same_chosen false a n b e f = sym e

pub between_none : (c : Operand) (w a b : ℕ) → Between c w w a b []
between_none c w a b =
    record {
      fits = λ sc hc. omega arith;
      same = λ sc widths v wide hc l ha hb. same_chosen (operand_value v c == 0) (a / 2 ^ w) 0 (b / 2 ^ w) (div-eq_of_lt ha) (div-eq_of_lt hb);
    }

-- one more bit

zero_is : (n : ℕ) → n < 2 → (n == 1) ≡ false → n ≡ 0
zero_is n l h = grind (arith, nat_tests)

itself : (c x y : ℕ) → c < 2 ^ 1 → x ≡ 1 → y ≡ 0 → c ≡ Chosen c y x
itself c x y l e f = elim (bit_cases c l) [ inl i ↦ rw (i, f) refl | inr i ↦ rw (i, e) refl ]

halves : (n k : ℕ) → n / 2 ^ k ≡ n / 2 ^ (k + 1) * 2 + n / 2 ^ k % 2
halves n k =
    let e : n / 2 ^ k / 2 ^ 1 ≡ n / 2 ^ (k + 1) = shr-shr n k 1 in
    let f = div-add-mod (n / 2 ^ k) 2 in
    omega (arith, e, f)

-- a bit of a number
record BitIs (n k : ℕ) (t : Bool) : Type 0 where
  is : n / 2 ^ k % 2 ≡ number t

bit_is : (n k : ℕ) (t : Bool) → bit_test n k ≡ t → BitIs n k t
bit_is n k true h = record { is = equal_of_test (n / 2 ^ k % 2) 1 h }
bit_is n k false h =
    let l : n / 2 ^ k % 2 < 2 = mod-lt (n / 2 ^ k) (omega arith) in
    record { is = zero_is (n / 2 ^ k % 2) l h }

record BitChosen (c p : Operand) (x y : ℕ) : Type 0 where
  fits : (sc : Scope) → IsOperand sc 1 c → IsOperand sc 1 p
  same : (v : Valuation) → operand_value v c < 2 ^ 1 → operand_value v p ≡ Chosen (operand_value v c) y x

bit_between : (c p : Operand) (s t : Bool) (x y : ℕ) → x ≡ number s → y ≡ number t → between c s t ≡ Some p → BitChosen c p x y
bit_between c p true true x y e f h =
    let i : bit true ≡ p = cc in
    subst (λ (o : Operand). BitChosen c o x y) i
    (record { fits = λ sc hc. bit_fits sc 1 true refl; same = λ v l. same_chosen (operand_value v c == 0) x 1 y e f })
bit_between c p false false x y e f h =
    let i : bit false ≡ p = cc in
    subst (λ (o : Operand). BitChosen c o x y) i
    (record { fits = λ sc hc. bit_fits sc 1 false refl; same = λ v l. same_chosen (operand_value v c == 0) x 0 y e f })
bit_between c p true false x y e f h =
    let i : c ≡ p = cc in
    subst (λ (o : Operand). BitChosen c o x y) i
    (record { fits = λ sc hc. hc; same = λ v l. itself (operand_value v c) x y l e f })
bit_between c p false true x y e f h = absurd (let g : None ≡ Some p = h in cc)

bits_on : (t : Bool) (a b p q x y : ℕ) → a ≡ p * 2 + x → b ≡ q * 2 + y → (if t then q else p) * 2 + (if t then y else x) ≡ (if t then b else a)
bits_on true a b p q x y e f = sym f
bits_on false a b p q x y e f = sym e

between_push : (c : Operand) (k w a b : ℕ) (ps : List Operand) (p : Operand) → k < w → Between c (k + 1) w a b ps
    → BitChosen c p (a / 2 ^ k % 2) (b / 2 ^ k % 2) → Between c k w a b (ps ++ p ∷ [])
between_push c k w a b ps p l s d =
    record {
      fits = λ sc hc.
          let e : w - (k + 1) + 1 ≡ w - k = omega (arith, l) in
          subst (λ (n : ℕ). AreOperands sc n (ps ++ p ∷ [])) e (are_both sc (w - (k + 1)) 1 ps (p ∷ []) (s.fits sc hc) (one_are sc 1 p one_wide (d.fits sc hc)));
      same = λ sc widths v wide hc i ha hb.
          let n : operands_width widths (p ∷ []) ≡ 1 = parts_wide sc widths wide 1 (p ∷ []) (one_are sc 1 p one_wide (d.fits sc hc)) in
          values_both widths v ps (p ∷ [])
          ∙ ap₂ (λ (q m : ℕ). operands_value widths v ps * 2 ^ q + m) n (one_value widths v p ∙ d.same v i)
          ∙ ap (λ (m : ℕ). m * 2 ^ 1 + Chosen (operand_value v c) (b / 2 ^ k % 2) (a / 2 ^ k % 2)) (s.same sc widths v wide hc i ha hb)
          ∙ bits_on (operand_value v c == 0) (a / 2 ^ k) (b / 2 ^ k) (a / 2 ^ (k + 1)) (b / 2 ^ (k + 1)) (a / 2 ^ k % 2) (b / 2 ^ k % 2) (halves a k) (halves b k);
    }

pub between_more : (c : Operand) (k w a b : ℕ) (ps : List Operand) (p : Operand) (qs : List Operand) → k < w → Between c (k + 1) w a b ps
    → between c (bit_test a k) (bit_test b k) ≡ Some p → AddsPart ps p qs → Between c k w a b qs
between_more c k w a b ps p qs l s h g =
    let d = bit_between c p (bit_test a k) (bit_test b k) (a / 2 ^ k % 2) (b / 2 ^ k % 2) (bit_is a k (bit_test a k) refl).is (bit_is b k (bit_test b k) refl).is h in
    let m = between_push c k w a b ps p l s d in
    elim g [
      | inl e ↦ subst (Between c k w a b) (sym e) m
      | inr x ↦
          let y = glue_same ps p qs x in
          record {
            fits = λ sc hc. y.fits sc (w - k) (m.fits sc hc);
            same = λ sc widths v wide hc i ha hb. sym (y.same sc widths v (w - k) wide (m.fits sc hc)) ∙ m.same sc widths v wide hc i ha hb;
          }
    ]

over_one : (t : Bool) (a b : ℕ) → (if t then b / 1 else a / 1) ≡ (if t then b else a)
over_one true a b = omega arith
over_one false a b = omega arith

pub between_all : (ws : List Wire) (w : ℕ) (c : Operand) (i j a b : ℕ) (ps : List Operand) → Between c 0 w a b ps → 2 ≤ length ps
    → Equals ws w (Choose c (Constant i a) (Constant j b)) (Concat ps)
between_all ws w c i j a b ps s l =
    record {
      fits = λ ms sc f h. let e : w - 0 ≡ w = omega arith in (l, subst (λ (n : ℕ). AreOperands (readable_after sc ws) n ps) e (s.fits (readable_after sc ws) h.0));
      same = λ ms sc widths v o h.
          sym (s.same (readable_after sc ws) widths v o.wide h.0 (operand_below (readable_after sc ws) v o.below 1 c h.0) h.1.1 h.2.1 ∙ over_one (operand_value v c == 0) a b);
    }

number_is_in : (o : Operand) (n : ℕ) → number_in o ≡ Some n → (w : ℕ) × (o ≡ Constant w n)
number_is_in (Named x) n h = absurd (cc)
number_is_in (Constant w m) n h = let e : m ≡ n = cc in (w, ap (Constant w) e)

pub between_choice : (ws : List Wire) (w : ℕ) (c a b : Operand) (m n : ℕ) (ps : List Operand) → number_in a ≡ Some m → number_in b ≡ Some n
    → Between c 0 w m n ps → 2 ≤ length ps → Equals ws w (Choose c a b) (Concat ps)
between_choice ws w c a b m n ps f g s l =
    let x = number_is_in a m f in
    let y = number_is_in b n g in
    subst (λ (o : Operand). Equals ws w (Choose c o b) (Concat ps)) (sym x.1)
    (subst (λ (o : Operand). Equals ws w (Choose c (Constant x.0 m) o) (Concat ps)) (sym y.1) (between_all ws w c x.0 y.0 m n ps s l))
