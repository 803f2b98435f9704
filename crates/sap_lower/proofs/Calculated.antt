-- What a right side folds to has its value, where its operands are within their widths.
use Rattle.sap_lemmas.proofs.Common.{◌≡◌, ℕ, ◌^◌, ◌<◌, [], ◌∷◌, ◌++◌, Some, sym, ap, ◌∙◌, subst, refl, inl, inr, append_assoc, bytes_eq, bytes_eq_same, equal_of_bytes_eq, cases_Bool, AllByRecursion, all_append}
use Rattle.sap_bits.specs.Arithmetic.{width1, width2}
use Rattle.sap_bits.specs.declared.Op1.{Op1}
use Rattle.sap_bits.specs.declared.Op2.{Op2}
use Rattle.sap_maps.specs.Prelude.{Name, Valuation, Scope, find, CountFits}
use Rattle.sap_net.specs.Prelude.{IsWidth, IsOperand, IsRight, operand_value, operand_width, right_value, ValuesBelow, WidthsAre}
use Rattle.sap_net.specs.declared.parts.Operand.{Operand}
use Rattle.sap_net.specs.declared.parts.Operand.TheVariants.{Named, Constant}
use Rattle.sap_net.specs.declared.parts.Right.{Right}
use Rattle.sap_net.specs.declared.parts.Right.TheVariants.{Copy, One, Two, Choose}
use Rattle.sap_net.proofs.Within.{operand_is_wide}
use Rattle.sap_fold.specs.Folding.{settled}
use Rattle.sap_fold.proofs.Settling.{settled_equals}
use Rattle.sap_lower.specs.Lowering.{copied}

pub copied_is : (r : Right) (o : Operand) → copied r ≡ Some o → r ≡ Copy o
copied_is (Copy a) o e = let f : Some a ≡ Some o = e in let g : a ≡ o = cc in ap Copy g
copied_is _ o e = absurd (cc)

-- an operand has this width, and a number within it
pub record Within (widths : Name → ℕ) (v : Valuation) (o : Operand) (u : ℕ) : Type 0 where
  pub wide : operand_width widths o ≡ u
  pub below : operand_value v o < 2 ^ u

-- what a right side of this width folds to has its value
pub record Folds (widths : Name → ℕ) (v : Valuation) (u : ℕ) (r : Right) : Type 0 where
  pub value : right_value widths v (settled u r) ≡ right_value widths v r
  pub wide : (o : Operand) → settled u r ≡ Copy o → operand_width widths o ≡ u

module _ (widths : Name → ℕ) (v : Valuation) where
  -- the names that an operand reads, with their widths
  abbrev own : Operand → Scope
  own (Named x) = (x, widths x) ∷ []
  own (Constant w n) = []

  abbrev IsOwn : Name × ℕ → Type 0
  IsOwn e = (e.1 ≡ widths e.0) × (v.value e.0 < 2 ^ e.1)

  own_found : (sc : Scope) → AllByRecursion IsOwn sc → (n : Name) (u : ℕ) → find sc n ≡ Some u → (widths n ≡ u) × (v.value n < 2 ^ u)
  own_found [] a n u h = absurd (cc)
  own_found (e ∷ sc) a n u h =
      elim (cases_Bool (bytes_eq e.0 n)) [
        | inl t ↦
            let q : Some e.1 ≡ Some u = rw t at h in
            let k : e.1 ≡ u = cc in
            let s : e.0 ≡ n = equal_of_bytes_eq e.0 n t in (
              subst (λ (m : Name). widths m ≡ u) s (sym a.0.0 ∙ k),
              subst (λ (m : Name). v.value m < 2 ^ u) s (subst (λ (j : ℕ). v.value e.0 < 2 ^ j) k a.0.1),
            )
        | inr f ↦ own_found sc a.1 n u (rw f at h)
      ]

  own_here : (front behind : Scope) (x : Name) → AllByRecursion IsOwn front → find (front ++ (x, widths x) ∷ behind) x ≡ Some (widths x)
  own_here [] behind x a = rw (bytes_eq_same x) refl
  own_here (e ∷ front) behind x a =
      elim (cases_Bool (bytes_eq e.0 x)) [
        | inl t ↦ rw t (ap Some (a.0.0 ∙ ap widths (equal_of_bytes_eq e.0 x t)))
        | inr f ↦ rw f (own_here front behind x a.1)
      ]

  own_operand : (front : Scope) (o : Operand) (behind : Scope) (u : ℕ) → AllByRecursion IsOwn front → Within widths v o u → IsOperand (front ++ (own o ++ behind)) u o
  own_operand front (Named x) behind u a k = own_here front behind x a ∙ ap Some k.wide
  own_operand front (Constant w n) behind u a k = (k.wide, k.below)

  all_own : (o : Operand) (u : ℕ) → Within widths v o u → AllByRecursion IsOwn (own o)
  all_own (Named x) u k = ((refl, subst (λ (w : ℕ). v.value x < 2 ^ w) (sym k.wide) k.below), tt)
  all_own (Constant w n) u k = tt

  folds_by : (sc : Scope) → AllByRecursion IsOwn sc → (u : ℕ) (r : Right) → IsRight [] sc u r → Folds widths v u r
  folds_by sc a u r f =
      let wide : WidthsAre sc widths = λ n k h. (own_found sc a n k h).0 in
      let below : ValuesBelow sc v = λ n k h. (own_found sc a n k h).1 in
      let s = settled_equals [] u r in
      let fit = s.fits [] sc tt f in
      record {
        value = sym (s.same [] sc widths v (record { wires = tt; wide = wide; below = below; holds = tt }) f);
        wide = λ o e. operand_is_wide sc widths wide u o (subst (λ (q : Right). IsRight [] sc u q) e fit);
      }

  pub one_folds : (op : Op1) (a : Operand) (w u : ℕ) → IsWidth w → Within widths v a w → u ≡ width1 op w → Folds widths v u (One op a)
  one_folds op a w u i k e =
      let all = all_append IsOwn (own a) [] (all_own a w k) tt in
      folds_by (own a ++ []) all u (One op a) (w, i, own_operand [] a [] w tt k, e)

  pub two_folds : (op : Op2) (a b : Operand) (w t u : ℕ) → IsWidth w → IsWidth t → Within widths v a w → Within widths v b t
      → CountFits op w t → u ≡ width2 op w → Folds widths v u (Two op a b)
  two_folds op a b w t u i j k l c e =
      let first = all_own a w k in
      let all = all_append IsOwn (own a) (own b ++ []) first (all_append IsOwn (own b) [] (all_own b t l) tt) in
      folds_by (own a ++ (own b ++ [])) all u (Two op a b) (w, t, i, j, own_operand [] a (own b ++ []) w tt k, own_operand (own a) b [] t first l, c, e)

  pub choice_folds : (c a b : Operand) (u : ℕ) → Within widths v c 1 → Within widths v a u → Within widths v b u → Folds widths v u (Choose c a b)
  choice_folds c a b u k l m =
      let rest = own b ++ [] in
      let sc = own c ++ (own a ++ rest) in
      let first = all_own c 1 k in
      let second = all_own a u l in
      let both = all_append IsOwn (own c) (own a) first second in
      let all = all_append IsOwn (own c) (own a ++ rest) first (all_append IsOwn (own a) rest second (all_append IsOwn (own b) [] (all_own b u m) tt)) in
      let last : IsOperand sc u b = subst (λ (q : Scope). IsOperand q u b) (append_assoc (own c) (own a) rest) (own_operand (own c ++ own a) b [] u both m) in
      folds_by sc all u (Choose c a b) (own_operand [] c (own a ++ rest) 1 tt k, own_operand (own c) a rest u first l, last)
