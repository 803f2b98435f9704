-- A right side is settled after three folds, and has its value.
use Rattle.sap_lemmas.proofs.Common.{◌≡◌, ℕ, List, sym, ap, ◌∙◌, refl, inl, inr, cases_Bool}
use Rattle.sap_bits.specs.Arithmetic.{value1}
use Rattle.sap_bits.specs.declared.Op1.{Op1}
use Rattle.sap_bits.specs.declared.Op1.TheVariants.{Not}
use Rattle.sap_bits.specs.declared.Op2.{Op2}
use Rattle.sap_bits.specs.declared.Op2.TheVariants.{And, Or}
use Rattle.sap_net.specs.declared.parts.Operand.{Operand}
use Rattle.sap_net.specs.declared.parts.Operand.TheVariants.{Named, Constant}
use Rattle.sap_net.specs.declared.parts.Right.{Right}
use Rattle.sap_net.specs.declared.parts.Right.TheVariants.{Copy, One, Two, Choose, Concat, Slice, Cell}
use Rattle.sap_net.specs.declared.parts.Wire.{Wire}
use Rattle.sap_fold.specs.Equals.{Equals}
use Rattle.sap_fold.specs.Folding.{fits, fold_two, fold_choose, of_two, of_choose, folded, settled}
use Rattle.sap_fold.specs.declared.rules.Outcome.{Outcome}
use Rattle.sap_fold.specs.declared.rules.Outcome.TheVariants.{Keep, Condition, First, Second, Number, NotCondition, NotFirst, NotSecond, ConditionAndFirst, ConditionOrSecond}
use Rattle.sap_fold.proofs.Folds.{folded_equals}
use Rattle.sap_fold.proofs.Sees.{equals_both}

abbrev twice : ℕ → Right → Right
twice w r = folded w (folded w r)

one_settles : (w : ℕ) (op : Op1) (a : Operand) → twice w (One op a) ≡ folded w (One op a)
one_settles w op (Named x) = refl
one_settles w op (Constant k n) =
    let r = One op (Constant k n) in
    elim (cases_Bool (fits k n)) [
      | inl t ↦
          let e : folded w r ≡ Copy (Constant w (value1 op k n)) = rw t refl in
          ap (folded w) e ∙ sym e
      | inr f ↦
          let e : folded w r ≡ r = rw f refl in
          ap (folded w) e
    ]

-- what folds to something settles after it
two_from : (w : ℕ) (r s : Right) → folded w r ≡ s → twice w s ≡ folded w s → folded w (twice w r) ≡ twice w r
two_from w r s e h = ap (twice w) e ∙ h ∙ sym (ap (folded w) e)

two_by : (w : ℕ) (op : Op2) (a b : Operand) (o : Outcome) → folded w (Two op a b) ≡ of_two w op a b o → folded w (twice w (Two op a b)) ≡ twice w (Two op a b)
two_by w op a b Keep e = ap (twice w) e
two_by w op a b Condition e = ap (twice w) e
two_by w op a b First e = two_from w (Two op a b) (Copy a) e refl
two_by w op a b Second e = two_from w (Two op a b) (Copy b) e refl
two_by w op a b (Number n) e = two_from w (Two op a b) (Copy (Constant w n)) e refl
two_by w op a b NotCondition e = ap (twice w) e
two_by w op a b NotFirst e = two_from w (Two op a b) (One Not a) e (one_settles w Not a)
two_by w op a b NotSecond e = two_from w (Two op a b) (One Not b) e (one_settles w Not b)
two_by w op a b ConditionAndFirst e = ap (twice w) e
two_by w op a b ConditionOrSecond e = ap (twice w) e

two_settles : (w : ℕ) (op : Op2) (a b : Operand) → folded w (twice w (Two op a b)) ≡ twice w (Two op a b)
two_settles w op a b = two_by w op a b (fold_two w op a b) refl

three_from : (w : ℕ) (r s : Right) → folded w r ≡ s → folded w (twice w s) ≡ twice w s → folded w (settled w r) ≡ settled w r
three_from w r s e h = ap (settled w) e ∙ h ∙ sym (ap (twice w) e)

choose_by : (w : ℕ) (c a b : Operand) (o : Outcome) → folded w (Choose c a b) ≡ of_choose c a b o → folded w (settled w (Choose c a b)) ≡ settled w (Choose c a b)
choose_by w c a b Keep e = ap (settled w) e
choose_by w c a b Condition e = three_from w (Choose c a b) (Copy c) e refl
choose_by w c a b First e = three_from w (Choose c a b) (Copy a) e refl
choose_by w c a b Second e = three_from w (Choose c a b) (Copy b) e refl
choose_by w c a b (Number n) e = ap (settled w) e
choose_by w c a b NotCondition e = three_from w (Choose c a b) (One Not c) e (ap (folded w) (one_settles w Not c))
choose_by w c a b NotFirst e = ap (settled w) e
choose_by w c a b NotSecond e = ap (settled w) e
choose_by w c a b ConditionAndFirst e = three_from w (Choose c a b) (Two And c a) e (two_settles w And c a)
choose_by w c a b ConditionOrSecond e = three_from w (Choose c a b) (Two Or c b) e (two_settles w Or c b)

pub settled_stays : (w : ℕ) (r : Right) → folded w (settled w r) ≡ settled w r
settled_stays w (Copy a) = refl
settled_stays w (One op a) = ap (twice w) (one_settles w op a)
settled_stays w (Two op a b) = ap (folded w) (two_settles w op a b)
settled_stays w (Choose c a b) = choose_by w c a b (fold_choose w c a b) refl
settled_stays w (Concat os) = refl
settled_stays w (Slice x hi lo) = refl
settled_stays w (Cell m i) = refl

-- what folds to itself is settled
pub settled_itself : (w : ℕ) (r : Right) → folded w r ≡ r → settled w r ≡ r
settled_itself w r e = ap (twice w) e ∙ ap (folded w) e ∙ e

fold_equals : (ws : List Wire) (w : ℕ) (r : Right) → Equals ws w r (folded w r)
fold_equals ws w r = folded_equals ws w r (folded w r) r refl refl

pub settled_equals : (ws : List Wire) (w : ℕ) (r : Right) → Equals ws w r (settled w r)
settled_equals ws w r =
    equals_both ws w r (folded w r) (settled w r) (fold_equals ws w r)
    (equals_both ws w (folded w r) (twice w r) (settled w r) (fold_equals ws w (folded w r)) (fold_equals ws w (twice w r)))
