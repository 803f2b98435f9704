-- Parts of concatenations: the same bits from fewer of them.
use Rattle.sap_lemmas.proofs.Common.{◌≡◌, ℕ, ◌+◌, ◌-◌, ◌*◌, ◌^◌, ◌<◌, ◌≤◌, List, [], ◌∷◌, ◌++◌, length, Option, Some, None, Bool, true, false, sym, ap, ap₂, ◌∙◌, subst, refl, inl, inr, arith, append_assoc, ◌&&◌, nat_le, IfSome, add-mul, pow_pos, pow_mono, pow-add, cases_Bool, and_parts, leb-true}
use Rattle.std.proofs.Math.Nat.{mul_assoc}
use Rattle.sap_maps.specs.Prelude.{Name, Valuation, Scope}
use Rattle.sap_net.specs.Prelude.{IsWidth, IsOperand, AreOperands, readable_after, operand_value, operands_width, operands_value, WidthsAre}
use Rattle.sap_net.specs.declared.parts.Operand.{Operand}
use Rattle.sap_net.specs.declared.parts.Operand.TheVariants.{Constant}
use Rattle.sap_net.specs.declared.parts.Right.TheVariants.{Copy, Concat}
use Rattle.sap_net.specs.declared.parts.Wire.{Wire}
use Rattle.sap_net.proofs.Within.{operand_is_wide}
use Rattle.sap_maps.proofs.Terms.{joined_below}
use Rattle.sap_fold.specs.Equals.{Equals}
use Rattle.sap_fold.specs.Folding.{same_operand, fits}
use Rattle.sap_fold.specs.Seen.{Defines}
use Rattle.sap_fold.specs.Under.{number, bit, Under}
use Rattle.sap_fold.specs.Parts.{GluesLast, AddsPart, put, SameParts, Whole}
use Rattle.sap_fold.proofs.Folds.{same_is}
use Rattle.sap_fold.proofs.Sees.{defined_right, defined_same}
use Rattle.sap_fold.proofs.Unders.{one_width, bit_fits}

-- lists of parts, one behind another

-- what two lists of parts are of which one has the width
pub record BothAre (sc : Scope) (w : ℕ) (xs ys : List Operand) : Type 0 where
  pub a : ℕ
  pub b : ℕ
  pub first : AreOperands sc a xs
  pub second : AreOperands sc b ys
  pub wide : w ≡ a + b

pub are_front : (sc : Scope) (w : ℕ) (xs ys : List Operand) → AreOperands sc w (xs ++ ys) → BothAre sc w xs ys
are_front sc w [] ys h = record { a = 0; b = w; first = refl; second = h; wide = omega arith }
are_front sc w (x ∷ xs) ys h =
    let k = are_front sc h.1 xs ys h.4 in
    record {
      a = h.0 + k.a;
      b = k.b;
      first = (h.0, k.a, h.2, h.3, k.first, refl);
      second = k.second;
      wide = omega (arith, h.5, k.wide);
    }

pub are_both : (sc : Scope) (a b : ℕ) (xs ys : List Operand) → AreOperands sc a xs → AreOperands sc b ys → AreOperands sc (a + b) (xs ++ ys)
are_both sc a b [] ys f g =
    let e : b ≡ a + b = omega (arith, f) in subst (λ (n : ℕ). AreOperands sc n ys) e g
are_both sc a b (x ∷ xs) ys f g =
    (f.0, f.1 + b, f.2, f.3, are_both sc f.1 b xs ys f.4 g, omega (arith, f.5))

pub parts_wide : (sc : Scope) (widths : Name → ℕ) → WidthsAre sc widths → (w : ℕ) (os : List Operand) → AreOperands sc w os → operands_width widths os ≡ w
parts_wide sc widths k w [] h = sym h
parts_wide sc widths k w (o ∷ os) h =
    let a = operand_is_wide sc widths k h.0 o h.3 in
    let b = parts_wide sc widths k h.1 os h.4 in
    omega (arith, a, b, h.5)

widths_both : (widths : Name → ℕ) (xs ys : List Operand) → operands_width widths (xs ++ ys) ≡ operands_width widths xs + operands_width widths ys
widths_both widths [] ys = omega arith
widths_both widths (x ∷ xs) ys = let e = widths_both widths xs ys in omega (arith, e)

joined_twice : (x v y a b c : ℕ) → c ≡ a + b → x * 2 ^ c + (v * 2 ^ b + y) ≡ (x * 2 ^ a + v) * 2 ^ b + y
joined_twice x v y a b c e =
    let p : 2 ^ c ≡ 2 ^ a * 2 ^ b = ap (λ (n : ℕ). 2 ^ n) e ∙ pow-add 2 a b in
    let q : x * 2 ^ c ≡ x * 2 ^ a * 2 ^ b = ap (λ (n : ℕ). x * n) p ∙ sym (mul_assoc x (2 ^ a) (2 ^ b)) in
    let r : (x * 2 ^ a + v) * 2 ^ b ≡ x * 2 ^ a * 2 ^ b + v * 2 ^ b = add-mul (x * 2 ^ a) v (2 ^ b) in
    omega (arith, q, r)

pub values_both : (widths : Name → ℕ) (v : Valuation) (xs ys : List Operand)
    → operands_value widths v (xs ++ ys) ≡ operands_value widths v xs * 2 ^ operands_width widths ys + operands_value widths v ys
values_both widths v [] ys = omega arith
values_both widths v (x ∷ xs) ys =
    ap (λ (n : ℕ). operand_value v x * 2 ^ operands_width widths (xs ++ ys) + n) (values_both widths v xs ys)
    ∙ joined_twice (operand_value v x) (operands_value widths v xs) (operands_value widths v ys) (operands_width widths xs)
    (operands_width widths ys) (operands_width widths (xs ++ ys)) (widths_both widths xs ys)

pub one_value : (widths : Name → ℕ) (v : Valuation) (o : Operand) → operands_value widths v (o ∷ []) ≡ operand_value v o
one_value widths v o = omega arith

one_is : (sc : Scope) (w : ℕ) (o : Operand) → AreOperands sc w (o ∷ []) → IsWidth w × IsOperand sc w o
one_is sc w o h =
    let e : h.0 ≡ w = omega (arith, h.5, h.4) in (subst IsWidth e h.2, subst (λ (n : ℕ). IsOperand sc n o) e h.3)

pub one_are : (sc : Scope) (w : ℕ) (o : Operand) → IsWidth w → IsOperand sc w o → AreOperands sc w (o ∷ [])
one_are sc w o i h = (w, 0, i, h, refl, omega arith)

-- one more part

record PartIs (c : Operand) (n : ℕ) (o p : Operand) : Type 0 where
  fits : (sc : Scope) (u : ℕ) → IsOperand sc 1 c → IsOperand sc u o → IsOperand sc u p
  same : (sc : Scope) (v : Valuation) (u : ℕ) → IsOperand sc 1 c → IsOperand sc u o → operand_value v c ≡ n → operand_value v o ≡ operand_value v p

put_is : (c : Operand) (t : Bool) (o : Operand) → PartIs c (number t) o (put c t o)
put_is c t o =
    elim (cases_Bool (same_operand o c)) [
      | inl s ↦
          let e = same_is o c s in
          let is : put c t o ≡ bit t = rw s refl in
          subst (PartIs c (number t) o) (sym is)
          (record {
            fits = λ sc u hc ho. bit_fits sc u t (one_width sc u 1 c (subst (IsOperand sc u) e ho) hc);
            same = λ sc v u hc ho n. ap (operand_value v) e ∙ n;
          })
      | inr f ↦
          let is : put c t o ≡ o = rw f refl in
          subst (PartIs c (number t) o) (sym is) (record { fits = λ sc u hc ho. ho; same = λ sc v u hc ho n. refl })
    ]

same_push : (c : Operand) (n : ℕ) (os ps : List Operand) (o p : Operand) → SameParts c n os ps → PartIs c n o p → SameParts c n (os ++ o ∷ []) (ps ++ p ∷ [])
same_push c n os ps o p s k =
    record {
      fits = λ sc w hc h.
          let b = are_front sc w os (o ∷ []) h in
          let i = one_is sc b.b o b.second in
          subst (λ (m : ℕ). AreOperands sc m (ps ++ p ∷ [])) (sym b.wide)
          (are_both sc b.a b.b ps (p ∷ []) (s.fits sc b.a hc b.first) (one_are sc b.b p i.0 (k.fits sc b.b hc i.1)));
      same = λ sc widths v w wide hc h e.
          let b = are_front sc w os (o ∷ []) h in
          let i = one_is sc b.b o b.second in
          let j = one_are sc b.b p i.0 (k.fits sc b.b hc i.1) in
          let x = s.same sc widths v b.a wide hc b.first e in
          let y : operands_value widths v (o ∷ []) ≡ operands_value widths v (p ∷ []) = one_value widths v o ∙ k.same sc v b.b hc i.1 e ∙ sym (one_value widths v p) in
          let z : operands_width widths (o ∷ []) ≡ operands_width widths (p ∷ []) = parts_wide sc widths wide b.b (o ∷ []) b.second
          ∙ sym (parts_wide sc widths wide b.b (p ∷ []) j) in
          values_both widths v os (o ∷ [])
          ∙ ap (λ (m : ℕ). m * 2 ^ operands_width widths (o ∷ []) + operands_value widths v (o ∷ [])) x
          ∙ ap₂ (λ (q m : ℕ). operands_value widths v ps * 2 ^ q + m) z y
          ∙ sym (values_both widths v ps (p ∷ []));
    }

-- two numbers as one

pub front_below : (w u n : ℕ) → fits w n ≡ true → w + u ≤ 64 → n < 2 ^ (64 - u)
front_below w u n h l =
    let e = leb-true n (2 ^ w - 1) ((and_parts (nat_le 1 w && nat_le w 64) (nat_le n (2 ^ w - 1)) h).1) in
    let p : 2 ^ w ≤ 2 ^ (64 - u) = pow_mono (omega (arith, l)) in
    omega (arith, e, p, pow_pos w)

pub record SameList (ps qs : List Operand) : Type 0 where
  pub fits : (sc : Scope) (w : ℕ) → AreOperands sc w ps → AreOperands sc w qs
  pub same : (sc : Scope) (widths : Name → ℕ) (v : Valuation) (w : ℕ) → WidthsAre sc widths → AreOperands sc w ps → operands_value widths v ps ≡ operands_value widths v qs

pub glue_same : (ps : List Operand) (p : Operand) (qs : List Operand) → GluesLast ps p qs → SameList (ps ++ p ∷ []) qs
glue_same ps p qs g =
    let is = g.init in
    let l = g.last in
    let o = g.both in
    let k = g.glues in
    let pair = l ∷ p ∷ [] in
    let shape : ps ++ p ∷ [] ≡ is ++ pair = ap (λ (xs : List Operand). xs ++ p ∷ []) g.before ∙ append_assoc is (l ∷ []) (p ∷ []) in
    let both : (sc : Scope) (b : ℕ) → AreOperands sc b pair → AreOperands sc b (o ∷ []) = λ sc b h.
    let x : IsOperand sc h.0 (Constant k.u k.m) = subst (IsOperand sc h.0) k.first h.3 in
    let i = one_is sc h.1 p h.4 in
    let y : IsOperand sc h.1 (Constant k.t k.n) = subst (IsOperand sc h.1) k.second i.1 in
    let e : k.u + k.t ≡ b = omega (arith, x.0, y.0, h.5) in
    let low : k.m * 2 ^ k.t + k.n < 2 ^ b =
    subst (λ (z : ℕ). k.m * 2 ^ k.t + k.n < 2 ^ z) e (joined_below k.m k.n k.u k.t (subst (λ (z : ℕ). k.m < 2 ^ z) (sym x.0) x.1) (subst (λ (z : ℕ). k.n < 2 ^ z) (sym y.0) y.1)) in
    let wide : IsWidth b = (omega (arith, h.2.0, h.5), omega (arith, e, k.narrow)) in
    one_are sc b o wide (subst (IsOperand sc b) (sym k.both) (e, low)) in
    record {
      fits = λ sc w h.
          let b = are_front sc w is pair (subst (AreOperands sc w) shape h) in
          subst (AreOperands sc w) (sym g.after) (subst (λ (z : ℕ). AreOperands sc z (is ++ o ∷ [])) (sym b.wide) (are_both sc b.a b.b is (o ∷ []) b.first (both sc b.b b.second)));
      same = λ sc widths v w wide h.
          let b = are_front sc w is pair (subst (AreOperands sc w) shape h) in
          let i = one_is sc b.second.1 p b.second.4 in
          let y : IsOperand sc b.second.1 (Constant k.t k.n) = subst (IsOperand sc b.second.1) k.second i.1 in
          let wp : operands_width widths (p ∷ []) ≡ k.t = parts_wide sc widths wide b.second.1 (p ∷ []) b.second.4 ∙ sym y.0 in
          let a : operand_value v l ≡ k.m = ap (operand_value v) k.first in
          let d : operand_value v p ≡ k.n = ap (operand_value v) k.second in
          let c : operand_value v o ≡ k.m * 2 ^ k.t + k.n = ap (operand_value v) k.both in
          let x : operands_value widths v pair ≡ operands_value widths v (o ∷ []) =
          ap₂ (λ (m n : ℕ). operand_value v l * 2 ^ m + n) wp (one_value widths v p)
          ∙ ap₂ (λ (m n : ℕ). m * 2 ^ k.t + n) a d ∙ sym c ∙ sym (one_value widths v o) in
          let z : operands_width widths pair ≡ operands_width widths (o ∷ []) = parts_wide sc widths wide b.b pair b.second
          ∙ sym (parts_wide sc widths wide b.b (o ∷ []) (both sc b.b b.second)) in
          ap (operands_value widths v) shape ∙ values_both widths v is pair
          ∙ ap₂ (λ (q m : ℕ). operands_value widths v is * 2 ^ q + m) z x
          ∙ sym (values_both widths v is (o ∷ [])) ∙ ap (operands_value widths v) (sym g.after);
    }

pub same_more : (c : Operand) (t : Bool) (os ps : List Operand) (o : Operand) (qs : List Operand) → SameParts c (number t) os ps
    → AddsPart ps (put c t o) qs → SameParts c (number t) (os ++ o ∷ []) qs
same_more c t os ps o qs s (inl e) =
    subst (SameParts c (number t) (os ++ o ∷ [])) (sym e) (same_push c (number t) os ps o (put c t o) s (put_is c t o))
same_more c t os ps o qs s (inr g) =
    let p = put c t o in
    let k = same_push c (number t) os ps o p s (put_is c t o) in
    let l = glue_same ps p qs g in
    record {
      fits = λ sc w hc h. l.fits sc w (k.fits sc w hc h);
      same = λ sc widths v w wide hc h e. k.same sc widths v w wide hc h e ∙ l.same sc widths v w wide (k.fits sc w hc h);
    }

pub same_none : (c : Operand) (n : ℕ) → SameParts c n [] []
same_none c n = record { fits = λ sc w hc h. h; same = λ sc widths v w wide hc h e. refl }

-- a concatenation that is one operand where the bit is known
pub under_whole : (ws : List Wire) (c x : Operand) (n : ℕ) (os : List Operand) (p : Operand) → Defines ws x (Concat os) → Whole c n os p → Under ws c n x (Copy p)
under_whole ws c x n os p k s =
    record {
      fits = λ ms sc u f hc hx.
          let d = defined_right ms sc ws x (Concat os) u f hx k in
          (one_is (readable_after sc ws) u p (s.fits (readable_after sc ws) u hc d.1)).1;
      same = λ ms sc widths v u o hc hx e.
          let d = defined_right ms sc ws x (Concat os) u o.wires hx k in
          defined_same widths v ws x (Concat os) o.holds k
          ∙ s.same (readable_after sc ws) widths v u o.wide hc d.1 e ∙ one_value widths v p;
    }

pub some_whole : (ws : List Wire) (c x : Operand) (n : ℕ) (os : List Operand) (m : Option Operand) → Defines ws x (Concat os)
    → IfSome m (λ p. Whole c n os p) → IfSome m (λ p. Under ws c n x (Copy p))
some_whole ws c x n os None k h = tt
some_whole ws c x n os (Some p) k h = under_whole ws c x n os p k h

-- a concatenation with numbers joined
zero_fits : (sc : Scope) → IsOperand sc 1 (bit false)
zero_fits sc = bit_fits sc 1 false refl

pub concat_same : (ws : List Wire) (u : ℕ) (os ps : List Operand) → SameParts (bit false) 0 os ps → 2 ≤ length ps → Equals ws u (Concat os) (Concat ps)
concat_same ws u os ps s l =
    record {
      fits = λ ms sc f h. (l, s.fits (readable_after sc ws) u (zero_fits (readable_after sc ws)) h.1);
      same = λ ms sc widths v o h. s.same (readable_after sc ws) widths v u o.wide (zero_fits (readable_after sc ws)) h.1 refl;
    }
