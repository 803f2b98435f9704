-- What an operator gives, by its family, where the widths of its operands settle.
use Rattle.sap_lemmas.proofs.Common.{◌≡◌, ℕ, ◌+◌, ◌-◌, ◌≤◌, Bool, true, false, Option, Some, None, refl, sym, ap, ◌∙◌, arith, inl, inr, if◌then◌else◌, eqb, cases_Bool, eqb-true, pow_pos, some_same}
use Rattle.sap_bits.specs.Arithmetic.{width1, width2}
use Rattle.sap_tree.specs.declared.syntax.UnaryOperator.{UnaryOperator}
use Rattle.sap_tree.specs.declared.syntax.BinaryOperator.{BinaryOperator}
use Rattle.sap_tree.specs.declared.syntax.UnaryOperator.TheVariants.{Not, Neg}
use Rattle.sap_tree.specs.declared.syntax.BinaryOperator.TheVariants.{Eq, Ne, Lt, Le, Shl, Shr}
use Rattle.sap_names.specs.Prelude.{unsettled, else_of, family, own_binary, asked_left, asked_right, is_reduction}
use Rattle.sap_names.specs.declared.kind.Family.{Family}
use Rattle.sap_names.specs.declared.kind.Family.TheVariants.{Arithmetic, Shift, Comparison}
use Rattle.sap_maps.specs.Term.{Term, one, two, choose, TermFits, CountFits}
use Rattle.sap_meaning.specs.Prelude.{World, width, width_of, FineTerm, Indexed}
use Rattle.sap_resolved.specs.Terms.{one_of, two_of, widened}
use Rattle.sap_resolved.proofs.sized.Faultless.{settled_as, settled}

-- A term for an expression with this own width, where this width or none is asked for.
pub record Fitted (w : World) (t : Term ℕ) (mine asked : Option ℕ) : Type 0 where
  pub settles : unsettled mine asked ≡ false
  pub wide : else_of mine asked ≡ Some (width_of w t)
  pub fine : FineTerm w t
  pub fits : TermFits (width w) t
  pub indexed : Indexed w t

-- its width is the one that is asked for
pub asked_width : (w : World) (t : Term ℕ) (mine asked : Option ℕ) (u : ℕ) → asked ≡ Some u → Fitted w t mine asked → width_of w t ≡ u
asked_width w t mine None u e f = cc
asked_width w t mine (Some r) u e f =
    some_same (width_of w t) u (sym f.wide ∙ settled_as mine r f.settles ∙ e)

-- or its own
pub own_width : (w : World) (t : Term ℕ) (mine asked : Option ℕ) (u : ℕ) → mine ≡ Some u → Fitted w t mine asked → width_of w t ≡ u
own_width w t None asked u e f = cc
own_width w t (Some r) asked u e f = some_same (width_of w t) u (sym f.wide ∙ e)

plain_width1 : (o : UnaryOperator) (u : ℕ) → is_reduction o ≡ false → width1 (one_of o) u ≡ u
plain_width1 Not u h = refl
plain_width1 Neg u h = refl
plain_width1 _ u h = cc

bit_width1 : (o : UnaryOperator) (u : ℕ) → is_reduction o ≡ true → width1 (one_of o) u ≡ 1
bit_width1 Not u h = cc
bit_width1 Neg u h = cc
bit_width1 _ u h = refl

pub unary_fitted : (w : World) (o : UnaryOperator) (r : Bool) → is_reduction o ≡ r → (mine asked : Option ℕ) (t : Term ℕ)
    → unsettled (if r then Some 1 else mine) asked ≡ false
    → Fitted w t mine (if r then None else else_of (if r then Some 1 else mine) asked)
    → Fitted w (one (one_of o) t) (if r then Some 1 else mine) asked
unary_fitted w o true i mine asked t s f =
    record { settles = s; wide = ap (λ n. Some n) (sym (bit_width1 o (width_of w t) i)); fine = f.fine; fits = f.fits; indexed = f.indexed }
unary_fitted w o false i mine asked t s f =
    let u = settled mine asked s in
    let v : width_of w t ≡ u.0 = asked_width w t mine (else_of mine asked) u.0 u.1 f in
    record { settles = s; wide = u.1 ∙ ap (λ n. Some n) (sym (plain_width1 o (width_of w t) i ∙ v)); fine = f.fine; fits = f.fits; indexed = f.indexed }

shift_width2 : (o : BinaryOperator) (u : ℕ) → family o ≡ Shift → width2 (two_of o) u ≡ u
shift_width2 Eq u h = cc
shift_width2 Ne u h = cc
shift_width2 Lt u h = cc
shift_width2 Le u h = cc
shift_width2 _ u h = refl

plain_width2 : (o : BinaryOperator) (u : ℕ) → family o ≡ Arithmetic → width2 (two_of o) u ≡ u
plain_width2 Eq u h = cc
plain_width2 Ne u h = cc
plain_width2 Lt u h = cc
plain_width2 Le u h = cc
plain_width2 _ u h = refl

bit_width2 : (o : BinaryOperator) (u : ℕ) → family o ≡ Comparison → width2 (two_of o) u ≡ 1
bit_width2 Eq u h = refl
bit_width2 Ne u h = refl
bit_width2 Lt u h = refl
bit_width2 Le u h = refl
bit_width2 _ u h = cc

-- operands of one width fit every operator
alike_fit : (o : BinaryOperator) (u v : ℕ) → v ≡ u → CountFits (two_of o) u v
alike_fit Shl u v h = tt
alike_fit Shr u v h = tt
alike_fit _ u v h = h

count_fits : (o : BinaryOperator) (u v : ℕ) → family o ≡ Shift → CountFits (two_of o) u v
count_fits Shl u v h = tt
count_fits Shr u v h = tt
count_fits _ u v h = cc

-- both operands of a comparison have the width of the one that has one
compared : (w : World) (a b : Term ℕ) (left right : Option ℕ) → Fitted w a left (else_of left right) → Fitted w b right (else_of left right)
    → width_of w b ≡ width_of w a
compared w a b (Some u) right f g = asked_width w b right (Some u) u refl g ∙ sym (asked_width w a (Some u) (Some u) u refl f)
compared w a b None (Some u) f g = asked_width w b (Some u) (Some u) u refl g ∙ sym (asked_width w a None (Some u) u refl f)
compared w a b None None f g = let n = f.settles in cc

pub binary_fitted : (w : World) (o : BinaryOperator) (k : Family) → family o ≡ k → (left right asked : Option ℕ) (a b : Term ℕ)
    → unsettled (own_binary k left right) asked ≡ false
    → Fitted w a left (asked_left k (else_of (own_binary k left right) asked) left right)
    → Fitted w b right (asked_right k (else_of (own_binary k left right) asked) left right)
    → Fitted w (two (two_of o) a b) (own_binary k left right) asked
binary_fitted w o Arithmetic i left right asked a b s f g =
    let whole = else_of (else_of left right) asked in
    let u = settled (else_of left right) asked s in
    let x : width_of w a ≡ u.0 = asked_width w a left whole u.0 u.1 f in
    let y : width_of w b ≡ u.0 = asked_width w b right whole u.0 u.1 g in
    record {
      settles = s;
      wide = u.1 ∙ ap (λ n. Some n) (sym (plain_width2 o (width_of w a) i ∙ x));
      fine = (f.fine, g.fine);
      fits = (f.fits, g.fits, alike_fit o (width_of w a) (width_of w b) (y ∙ sym x));
      indexed = (f.indexed, g.indexed);
    }
binary_fitted w o Shift i left right asked a b s f g =
    let u = settled left asked s in
    let x : width_of w a ≡ u.0 = asked_width w a left (else_of left asked) u.0 u.1 f in
    record {
      settles = s;
      wide = u.1 ∙ ap (λ n. Some n) (sym (shift_width2 o (width_of w a) i ∙ x));
      fine = (f.fine, g.fine);
      fits = (f.fits, g.fits, count_fits o (width_of w a) (width_of w b) i);
      indexed = (f.indexed, g.indexed);
    }
binary_fitted w o Comparison i left right asked a b s f g =
    record {
      settles = s;
      wide = ap (λ n. Some n) (sym (bit_width2 o (width_of w a) i));
      fine = (f.fine, g.fine);
      fits = (f.fits, g.fits, alike_fit o (width_of w a) (width_of w b) (compared w a b left right f g));
      indexed = (f.indexed, g.indexed);
    }

-- a choice between two terms of one width
pub choose_fitted : (w : World) (own left right asked : Option ℕ) (c a b : Term ℕ) → unsettled (else_of left right) asked ≡ false
    → Fitted w c own (Some 1) → Fitted w a left (else_of (else_of left right) asked) → Fitted w b right (else_of (else_of left right) asked)
    → Fitted w (choose c a b) (else_of left right) asked
choose_fitted w own left right asked c a b s e f g =
    let whole = else_of (else_of left right) asked in
    let u = settled (else_of left right) asked s in
    let x : width_of w a ≡ u.0 = asked_width w a left whole u.0 u.1 f in
    let y : width_of w b ≡ u.0 = asked_width w b right whole u.0 u.1 g in
    record {
      settles = s;
      wide = u.1 ∙ ap (λ n. Some n) (sym x);
      fine = (e.fine, f.fine, g.fine);
      fits = (e.fits, f.fits, g.fits, y ∙ sym x);
      indexed = (e.indexed, f.indexed, g.indexed);
    }

-- a term filled with zeros up to a width
pub widened_fitted : (w : World) (t : Term ℕ) (from u : ℕ) (mine asked : Option ℕ) → mine ≡ Some u → unsettled mine asked ≡ false
    → width_of w t ≡ from → from ≤ u → FineTerm w t → TermFits (width w) t → Indexed w t → Fitted w (widened from u t) mine asked
widened_fitted w t from u None asked e s i l fine fits indexed = cc
widened_fitted w t from u (Some v) asked e s i l fine fits indexed =
    let m : v ≡ u = some_same v u e in
    elim (cases_Bool (eqb from u)) [
      | inl q ↦
          let n : from ≡ u = eqb-true from u q in
          let wide : Some v ≡ Some (width_of w t) = ap (λ n. Some n) (m ∙ sym n ∙ sym i) in
          rw q (record { settles = s; wide = wide; fine = fine; fits = fits; indexed = indexed })
      | inr q ↦
          let wide : Some v ≡ Some (u - from + width_of w t) = ap (λ n. Some n) (omega arith) in
          rw q (record { settles = s; wide = wide; fine = (tt, fine); fits = (pow_pos (u - from), fits); indexed = (tt, indexed) })
    ]
