-- Rules that look at the right sides of helping wires.
use Rattle.sap_lemmas.proofs.Common.{◌≡◌, ℕ, zero, suc, ◌-◌, ◌^◌, ◌<◌, ◌==◌, List, [], ◌∷◌, length, get_or, Some, sym, ap, ap₂, ◌∙◌, subst, refl, inl, inr, arith, if◌then◌else◌, AllByRecursion, cases_Bool, positive_of_test, test_of_positive, zero_of_test}
use Rattle.sap_lemmas.proofs.Numbers.{test_of_zero}
use Rattle.sap_bits.specs.declared.Op1.TheVariants.{Not}
use Rattle.sap_maps.specs.Prelude.{Name, Valuation, Scope, find}
use Rattle.sap_maps.proofs.Scopes.{found_here}
use Rattle.sap_net.specs.Prelude.{Shapes, IsOperand, AreOperands, IsRight, AreWires, readable_after, operand_value, operand_width, right_value, Holds}
use Rattle.sap_net.specs.declared.parts.Operand.{Operand}
use Rattle.sap_net.specs.declared.parts.Right.{Right}
use Rattle.sap_net.specs.declared.parts.Right.TheVariants.{Copy, One, Two, Choose, Concat, Slice, Cell}
use Rattle.sap_net.specs.declared.parts.Wire.{Wire}
use Rattle.sap_net.proofs.Within.{operand_below, operand_is_wide}
use Rattle.sap_net.proofs.RulesLemmas.{readable_kept, Grows, operand_grows}
use Rattle.sap_fold.specs.Equals.{Equals}
use Rattle.sap_fold.specs.Wires.{HasWire}
use Rattle.sap_fold.specs.Seen.{Defines}

pub equals_itself : (ws : List Wire) (u : ℕ) (a : Right) → Equals ws u a a
equals_itself ws u a = record { fits = λ ms sc f h. h; same = λ ms sc widths v o h. refl }

pub equals_both : (ws : List Wire) (u : ℕ) (a b c : Right) → Equals ws u a b → Equals ws u b c → Equals ws u a c
equals_both ws u a b c d e =
    record {
      fits = λ ms sc f h. e.fits ms sc f (d.fits ms sc f h);
      same = λ ms sc widths v o h. d.same ms sc widths v o h ∙ e.same ms sc widths v o (d.fits ms sc o.wires h);
    }

-- a right side in a scope that has more

operands_grow : (sc sd : Scope) → Grows sc sd → (u : ℕ) (os : List Operand) → AreOperands sc u os → AreOperands sd u os
operands_grow sc sd g u [] h = h
operands_grow sc sd g u (o ∷ os) h =
    (h.0, h.1, h.2, operand_grows sc sd g h.0 o h.3, operands_grow sc sd g h.1 os h.4, h.5)

pub right_grows : (ms : Shapes) (sc sd : Scope) → Grows sc sd → (u : ℕ) (r : Right) → IsRight ms sc u r → IsRight ms sd u r
right_grows ms sc sd g u (Copy o) h = operand_grows sc sd g u o h
right_grows ms sc sd g u (One op o) h = (h.0, h.1, operand_grows sc sd g h.0 o h.2, h.3)
right_grows ms sc sd g u (Two op o p) h =
    (h.0, h.1, h.2, h.3, operand_grows sc sd g h.0 o h.4, operand_grows sc sd g h.1 p h.5, h.6, h.7)
right_grows ms sc sd g u (Choose c o p) h =
    (operand_grows sc sd g 1 c h.0, operand_grows sc sd g u o h.1, operand_grows sc sd g u p h.2)
right_grows ms sc sd g u (Concat os) h = (h.0, operands_grow sc sd g u os h.1)
right_grows ms sc sd g u (Slice x hi lo) h = (h.0, h.1, g x h.0 h.2, h.3, h.4, h.5)
right_grows ms sc sd g u (Cell m i) h = (h.0, h.1, operand_grows sc sd g h.0 i h.2)

-- what each wire is behind all
abbrev IsBehind : Shapes → Scope → Wire → Type 0
IsBehind ms sd w = IsRight ms sd w.width w.right × (find sd w.name ≡ Some w.width)

each_behind : (ms : Shapes) (ws : List Wire) (sc : Scope) → AreWires ms sc ws → AllByRecursion (IsBehind ms (readable_after sc ws)) ws
each_behind ms [] sc a = tt
each_behind ms (w ∷ ws) sc a =
    let sd = (w.name, w.width) ∷ sc in (
      (
        right_grows ms sc (readable_after sd ws) (readable_kept ms (w ∷ ws) sc a) w.width w.right a.3,
        readable_kept ms ws sd a.4 w.name w.width (found_here w.name w.width sc),
      ),
      each_behind ms ws sd a.4,
    )

each_holds : (widths : Name → ℕ) (v : Valuation) (ws : List Wire) → Holds widths v ws → AllByRecursion (λ w. v.value w.name ≡ right_value widths v w.right) ws
each_holds widths v [] h = tt
each_holds widths v (w ∷ ws) h = (h.0, each_holds widths v ws h.1)

all_at : (P : Wire → Type 0) (ws : List Wire) (k : ℕ) (w : Wire) → AllByRecursion P ws → k < length ws → w ≡ get_or ws k w → P w
all_at P [] k w a l e = absurd (omega (arith, l))
all_at P (x ∷ ws) zero w a l e = subst P (sym e) a.0
all_at P (x ∷ ws) (suc k) w a l e = all_at P ws k w a.1 (omega (arith, l)) e

pub defined_behind : (ms : Shapes) (sc : Scope) (ws : List Wire) (x : Name) (w : Wire) → AreWires ms sc ws → HasWire ws x w → IsBehind ms (readable_after sc ws) w
defined_behind ms sc ws x w a h = all_at (IsBehind ms (readable_after sc ws)) ws h.place w (each_behind ms ws sc a) h.within h.is

defined_value : (widths : Name → ℕ) (v : Valuation) (ws : List Wire) (x : Name) (w : Wire) → Holds widths v ws → HasWire ws x w → v.value w.name ≡ right_value widths v w.right
defined_value widths v ws x w a h =
    all_at (λ y. v.value y.name ≡ right_value widths v y.right) ws h.place w (each_holds widths v ws a) h.within h.is

-- an operand of width u that a wire defines has its right side of that width, and its value
pub defined_right : (ms : Shapes) (sc : Scope) (ws : List Wire) (o : Operand) (r : Right) (u : ℕ) → AreWires ms sc ws
    → IsOperand (readable_after sc ws) u o → Defines ws o r → IsRight ms (readable_after sc ws) u r
defined_right ms sc ws o r u a h d =
    let sd = readable_after sc ws in
    let w = d.wire in
    let b = defined_behind ms sc ws w.name w a d.has in
    let g : find sd w.name ≡ Some u = subst (λ (p : Operand). IsOperand sd u p) d.operand h in
    let k : Some w.width ≡ Some u = sym b.1 ∙ g in
    let e : w.width ≡ u = cc in
    subst (λ (q : Right). IsRight ms sd u q) d.right (subst (λ (n : ℕ). IsRight ms sd n w.right) e b.0)

pub defined_same : (widths : Name → ℕ) (v : Valuation) (ws : List Wire) (o : Operand) (r : Right) → Holds widths v ws → Defines ws o r → operand_value v o ≡ right_value widths v r
defined_same widths v ws o r a d =
    ap (operand_value v) d.operand ∙ defined_value widths v ws d.wire.name d.wire a d.has ∙ ap (right_value widths v) d.right

-- negations

back : (n x : ℕ) → x < n → n - 1 - (n - 1 - x) ≡ x
back n x h = omega arith

pub not_not : (ws : List Wire) (u : ℕ) (a d : Operand) → Defines ws a (One Not d) → Equals ws u (One Not a) (Copy d)
not_not ws u a d k =
    record {
      fits = λ ms sc f h.
          let r = defined_right ms sc ws a (One Not d) h.0 f h.2 k in
          subst (λ (n : ℕ). IsOperand (readable_after sc ws) n d) (sym (h.3 ∙ r.3)) r.2;
      same = λ ms sc widths v o h.
          let sd = readable_after sc ws in
          let r = defined_right ms sc ws a (One Not d) h.0 o.wires h.2 k in
          let wa : operand_width widths a ≡ h.0 = operand_is_wide sd widths o.wide h.0 a h.2 in
          let wd : operand_width widths d ≡ r.0 = operand_is_wide sd widths o.wide r.0 d r.2 in
          let e : operand_value v a ≡ 2 ^ operand_width widths d - 1 - operand_value v d = defined_same widths v ws a (One Not d) o.holds k in
          let w : operand_width widths a ≡ operand_width widths d = wa ∙ r.3 ∙ sym wd in
          let l : operand_value v d < 2 ^ operand_width widths d = subst (λ (n : ℕ). operand_value v d < 2 ^ n) (sym wd) (operand_below sd v o.below r.0 d r.2) in
          ap₂ (λ (n x : ℕ). 2 ^ n - 1 - x) w e ∙ back (2 ^ operand_width widths d) (operand_value v d) l;
    }

-- a choice by a bit's negation
turned : (c d x y : ℕ) → d < 2 ^ 1 → c ≡ 2 ^ 1 - 1 - d → (if c == 0 then y else x) ≡ (if d == 0 then x else y)
turned c d x y l e =
    elim (cases_Bool (d == 0)) [
      | inl t ↦
          let z = zero_of_test d t in
          let m : 0 < c = omega (arith, z, e) in
          let q = test_of_positive c m in rw (t, q) refl
      | inr f ↦
          let z = positive_of_test d f in
          let m : c ≡ 0 = omega (arith, z, e, l) in
          let q = test_of_zero c m in rw (f, q) refl
    ]

pub choose_turned : (ws : List Wire) (u : ℕ) (c d a b : Operand) → Defines ws c (One Not d) → Equals ws u (Choose c a b) (Choose d b a)
choose_turned ws u c d a b k =
    record {
      fits = λ ms sc f h.
          let r = defined_right ms sc ws c (One Not d) 1 f h.0 k in
          (subst (λ (n : ℕ). IsOperand (readable_after sc ws) n d) (sym r.3) r.2, h.2, h.1);
      same = λ ms sc widths v o h.
          let sd = readable_after sc ws in
          let r = defined_right ms sc ws c (One Not d) 1 o.wires h.0 k in
          let wd : operand_width widths d ≡ 1 = operand_is_wide sd widths o.wide r.0 d r.2 ∙ sym r.3 in
          let l : operand_value v d < 2 ^ 1 = subst (λ (n : ℕ). operand_value v d < 2 ^ n) (sym r.3) (operand_below sd v o.below r.0 d r.2) in
          let e : operand_value v c ≡ 2 ^ 1 - 1 - operand_value v d = defined_same widths v ws c (One Not d) o.holds k ∙ ap (λ (n : ℕ). 2 ^ n - 1 - operand_value v d) wd in
          turned (operand_value v c) (operand_value v d) (operand_value v a) (operand_value v b) l e;
    }
