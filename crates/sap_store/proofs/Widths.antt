-- The widths of terms, and what operators ask of their numbers.
use Rattle.sap_lemmas.proofs.Common.{◌≡◌, ℕ, ◌+◌, ◌-◌, ◌^◌, ◌<◌, ◌≤◌, sym, subst, arith, pow-le-pow_right}
use Rattle.sap_resolved.proofs.SizedLemmas.{ranged_width}
use Rattle.sap_bits.specs.Arithmetic.{RightFits}
use Rattle.sap_bits.specs.declared.Op1.{Op1}
use Rattle.sap_bits.specs.declared.Op2.{Op2}
use Rattle.sap_bits.specs.declared.Op2.TheVariants.{Shl, Shr}
use Rattle.sap_maps.specs.Term.{Term, cell, one, two, choose, join, part, CountFits}
use Rattle.sap_maps.proofs.Terms.{term_within}
use Rattle.sap_meaning.specs.Prelude.{World, width, own, start, number, width_of, value, depth}
use Rattle.sap_store.specs.declared.store.Store as code
use Rattle.sap_store.specs.Able.{AbleTerm, AbleIndex, AbleValue}
use Rattle.sap_store.specs.Kept.{Ready, store_of}

right_fits : (op : Op2) (w u b : ℕ) → CountFits op w u → b < 2 ^ u → RightFits op w b
right_fits Shl w u b c h = tt
right_fits Shr w u b c h = tt
right_fits _ w u b c h = subst (λ (k : ℕ). b < 2 ^ k) c h

pub width_least : (w : World) (e : Term ℕ) → AbleTerm w e → 1 ≤ width_of w e
width_least w e a = (ranged_width w e a.ranged).0

pub width_most : (w : World) (e : Term ℕ) → AbleTerm w e → width_of w e ≤ 64
width_most w e a = (ranged_width w e a.ranged).1

pub value_within : (w : World) (e : Term ℕ) (s : code.Store) → AbleTerm w e → Ready w s → value w e (store_of w s) < 2 ^ width_of w e
value_within w e s a r =
    term_within (width w) (λ x. number (own x) (store_of w s)) (λ m i. number (start m i) (store_of w s)) e a.sized.0 (λ x. r.numbers (own x)) (λ m i. r.numbers (start m i))

-- the parts of a term

module _ (w : World) where
  pub able_cell : (m : ℕ) (i : Term ℕ) → AbleTerm w (cell m i) → AbleTerm w i
  able_cell m i a = record { sized = (a.sized.0, a.sized.1.1); ranged = a.ranged.1 }

  pub able_one : (op : Op1) (e : Term ℕ) → AbleTerm w (one op e) → AbleTerm w e
  able_one op e a = record { sized = a.sized; ranged = a.ranged }

  pub able_left : (op : Op2) (e f : Term ℕ) → AbleTerm w (two op e f) → AbleTerm w e
  able_left op e f a = record { sized = (a.sized.0.0, a.sized.1.0); ranged = a.ranged.0 }

  pub able_right : (op : Op2) (e f : Term ℕ) → AbleTerm w (two op e f) → AbleTerm w f
  able_right op e f a = record { sized = (a.sized.0.1, a.sized.1.1); ranged = a.ranged.1 }

  pub able_condition : (c e f : Term ℕ) → AbleTerm w (choose c e f) → AbleTerm w c
  able_condition c e f a = record { sized = (a.sized.0.0, a.sized.1.0); ranged = a.ranged.0 }

  pub able_first : (c e f : Term ℕ) → AbleTerm w (choose c e f) → AbleTerm w e
  able_first c e f a = record { sized = (a.sized.0.1, a.sized.1.1); ranged = a.ranged.1 }

  pub able_second : (c e f : Term ℕ) → AbleTerm w (choose c e f) → AbleTerm w f
  able_second c e f a = record { sized = (a.sized.0.2, a.sized.1.2); ranged = a.ranged.2 }

  pub able_front : (e f : Term ℕ) → AbleTerm w (join e f) → AbleTerm w e
  able_front e f a = record { sized = (a.sized.0.0, a.sized.1.0); ranged = a.ranged.1 }

  pub able_back : (e f : Term ℕ) → AbleTerm w (join e f) → AbleTerm w f
  able_back e f a = record { sized = (a.sized.0.1, a.sized.1.1); ranged = a.ranged.2 }

  pub able_part : (e : Term ℕ) (hi lo : ℕ) → AbleTerm w (part e hi lo) → AbleTerm w e
  able_part e hi lo a = record { sized = (a.sized.0.0, a.sized.1); ranged = a.ranged.2 }

  module _ (s : code.Store) where
    pub right_within : (op : Op2) (e f : Term ℕ) → AbleTerm w (two op e f) → Ready w s → RightFits op (width_of w e) (value w f (store_of w s))
    right_within op e f a r = right_fits op (width_of w e) (width_of w f) _ a.sized.0.2 (value_within w f s (able_right op e f a) r)

    pub front_within : (e f : Term ℕ) → AbleTerm w (join e f) → Ready w s → value w e (store_of w s) < 2 ^ (64 - width_of w f)
    front_within e f a r =
        let v = value_within w e s (able_front e f a) r in
        let u : width_of w e + width_of w f ≤ 64 = a.ranged.0.1 in
        omega (arith, v, pow-le-pow_right {n = 2} (omega arith) {i = width_of w e} {j = 64 - width_of w f} (omega (arith, u)))

  pub both_within : (e f : Term ℕ) → AbleTerm w (join e f) → width_of w e + width_of w f ≤ 64
  both_within e f a = a.ranged.0.1

  pub part_order : (e : Term ℕ) (hi lo : ℕ) → AbleTerm w (part e hi lo) → lo ≤ hi
  part_order e hi lo a = a.ranged.0

  pub part_within : (e : Term ℕ) (hi lo : ℕ) → AbleTerm w (part e hi lo) → hi < 64
  part_within e hi lo a = let h : hi < width_of w e = a.ranged.1 in let k = width_most w e (able_part e hi lo a) in omega (arith, h, k)

pub ruleset terms = (
  width_least,
  width_most,
  value_within,
  able_cell,
  able_one,
  able_left,
  able_right,
  able_condition,
  able_first,
  able_second,
  able_front,
  able_back,
  able_part,
  right_within,
  front_within,
  both_within,
  part_order,
  part_within,
)

-- what is written fits, and what is indexed is there

pub value_fits : (w : World) (x : ℕ) (e : Term ℕ) (s : code.Store) (n : ℕ) → AbleValue w x e → Ready w s → n ≡ value w e (store_of w s) → n < 2 ^ width w x
value_fits w x e s n a r i = subst (λ (m : ℕ). m < 2 ^ width w x) (sym i) (subst (λ (u : ℕ). value w e (store_of w s) < 2 ^ u) a.same (value_within w e s a.value r))

pub index_within : (w : World) (m : ℕ) (i : Term ℕ) (s : code.Store) (n : ℕ) → AbleIndex w m i → Ready w s → n ≡ value w i (store_of w s) → n < depth w m
index_within w m i s n a r e = let v = value_within w i s a.index r in let d : 2 ^ width_of w i ≡ depth w m = a.within in omega (arith, v, d, e)
