use Rattle.std.proofs.Common.{◌≡◌, ℕ, sym, subst, arith}
use Rattle.sap_net.specs.declared.parts.Operand.TheVariants.{Named}
use Rattle.sap_net.specs.declared.parts.Right.TheVariants.{Copy, Slice}
use Rattle.sap_fold.specs.Equals.{Equals}
use Rattle.sap_fold.proofs.Slicing.{slice_whole}
use Rattle.sap_fold.proofs.slices.see_slice.Goals as goal

pub returns-then-wire-hi : goal.returns-then-wire-hi
returns-then-wire-hi c = λ u.
    let ws = c.args.wires.now.list.items in
    let x = c.args.name in
    let e : c.args.lo ≡ 0 = omega (arith, c.if-lo-eq0.true) in
    subst (λ (n : ℕ). Equals ws u (Slice x c.args.hi n) (Copy (Named x))) (sym e)
    (slice_whole ws u x c.in-Some.wire.now c.args.hi c.in-Some.ensures (omega (arith, c.if-wire-hi.true)))
