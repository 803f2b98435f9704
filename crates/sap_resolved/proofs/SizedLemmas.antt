-- On what stands in Sized: what several crates cite.
use Rattle.std.proofs.Common.{arith, ℕ, ◌+◌, ◌-◌, ◌<◌, ◌≤◌}
use Rattle.sap_bits.specs.Arithmetic.{width1, width2}
use Rattle.sap_bits.specs.declared.Op1.{Op1}
use Rattle.sap_bits.specs.declared.Op1.TheVariants.{Neg, Not}
use Rattle.sap_bits.specs.declared.Op2.{Op2}
use Rattle.sap_bits.specs.declared.Op2.TheVariants.{Eq, Le, Lt, Ne}
use Rattle.sap_maps.specs.Term.{Term, cell, choose, join, one, part, two}
use Rattle.sap_meaning.specs.Prelude.{width_of, World}
use Rattle.sap_resolved.specs.Sized.Ranges.{IsWidth, RangedTerm}

pub part_width : (hi lo k : ℕ) → lo ≤ hi → hi < k → IsWidth k → IsWidth (hi + 1 - lo)
part_width hi lo k h i w = let top : k ≤ 64 = w.1 in (omega arith, omega arith)

pub one_width : (op : Op1) (k : ℕ) → IsWidth k → IsWidth (width1 op k)
one_width Not k h = h
one_width Neg k h = h
one_width _ k h = (omega arith, omega arith)

pub two_width : (op : Op2) (k : ℕ) → IsWidth k → IsWidth (width2 op k)
two_width Eq k h = (omega arith, omega arith)
two_width Ne k h = (omega arith, omega arith)
two_width Lt k h = (omega arith, omega arith)
two_width Le k h = (omega arith, omega arith)
two_width _ k h = h

pub ranged_width : (w : World) (e : Term ℕ) → RangedTerm w e → IsWidth (width_of w e)
ranged_width w (cell m i) r = r.0
ranged_width w (one op a) r = one_width op (width_of w a) (ranged_width w a r)
ranged_width w (two op a b) r = two_width op (width_of w a) (ranged_width w a r.0)
ranged_width w (choose c a b) r = ranged_width w a r.1
ranged_width w (join a b) r = r.0
ranged_width w (part a hi lo) r = part_width hi lo (width_of w a) r.0 r.1 (ranged_width w a r.2)
ranged_width w _ r = r
