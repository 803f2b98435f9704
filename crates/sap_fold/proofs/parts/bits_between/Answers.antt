use Rattle.std.proofs.Common.{◌≡◌, ◌∙◌, ◌+◌, ◌-◌, List, Some, ℕ, sym, ap₂, subst, arith}
use Rattle.sap_net.specs.declared.parts.Operand.{Operand}
use Rattle.sap_fold.specs.Parts.{between, bit_test, Between}
use Rattle.sap_fold.proofs.Betweening.{between_none, between_more}
use Rattle.sap_fold.proofs.parts.bits_between.Goals as goal

pub loop-place-init : goal.loop-place-init
loop-place-init c =
    record {
      within = omega arith;
      between = subst (λ (ps : List Operand). Between c.args.condition.now c.args.width c.args.width c.args.a c.args.b ps)
          (sym c.new-parts.ensures.items) (between_none c.args.condition.now c.args.width c.args.a c.args.b);
    }

pub loop-place-preserved : goal.loop-place-preserved
loop-place-preserved c =
    let x = c.args.condition.now in
    let a = c.args.a in
    let b = c.args.b in
    let k = c.loop-place.place - 1 in
    let l = c.loop-place-test.true in
    let up : c.loop-place.place ≡ k + 1 = omega (arith, l) in
    let h : between x (bit_test a k) (bit_test b k) ≡ Some c.in-Some.part =
    ap₂ (between x) (sym c.bit_at.ensures) (sym c.bit_at-in-loop-place.ensures) ∙ sym (c.in_ok-between.ensures {u = tt}) ∙ c.in-Some.is in
    record {
      within = omega (arith, c.loop-place.invariant.within);
      between = between_more x k c.args.width a b c.loop-place.parts.items c.in-Some.part c.add_part.new.parts.items (omega (arith, l, c.loop-place.invariant.within))
          (subst (λ (n : ℕ). Between x n c.args.width a b c.loop-place.parts.items) up c.loop-place.invariant.between) h (c.in_ok-add_part.ensures {u = tt});
    }
