use Rattle.std.proofs.Common.{◌+◌, ◌*◌, ◌∙◌, subst}
use Rattle.sap_bits.specs.Arithmetic.{RightFits}
use Rattle.sap_bits.specs.declared.Op2.{Op2}
use Rattle.sap_bits.proofs.Low.{low_bits, low_difference}
use Rattle.sap_bits.proofs.apply2.Goals as goal

pub returns-in-Add : goal.returns-in-Add
returns-in-Add c =
    rw c.in-Add.is (low_bits (c.args.a + c.args.b) c.args.w _ c.requires.narrow c.mask.ensures)

pub returns-in-Sub : goal.returns-in-Sub
returns-in-Sub c =
    let below = subst (λ (o : Op2). RightFits o c.args.w c.args.b) c.in-Sub.is c.requires.right in
    rw c.in-Sub.is (low_bits _ c.args.w _ c.requires.narrow c.mask-in-Sub.ensures ∙ low_difference c.args.a c.args.b c.args.w c.requires.narrow below)

pub returns-in-Mul : goal.returns-in-Mul
returns-in-Mul c =
    rw c.in-Mul.is (low_bits (c.args.a * c.args.b) c.args.w _ c.requires.narrow c.mask-in-Mul.ensures)
