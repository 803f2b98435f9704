use Rattle.sap_lemmas.proofs.Common.{List, subst, IfSome}
use Rattle.sap_net.specs.declared.parts.Operand.{Operand}
use Rattle.sap_fold.specs.Slices.{OfParts}
use Rattle.sap_fold.proofs.Slicing.{some_slice, some_parts}
use Rattle.sap_fold.proofs.slices.of_right.Goals as goal

pub returns-in_ok-told-in-Slice : goal.returns-in_ok-told-in-Slice
returns-in_ok-told-in-Slice c =
    some_slice c.args.wires.now.list.items c.args.right.now c.in-Slice.name c.in-Slice.hi c.in-Slice.behind c.args.hi c.args.lo
    c.in_ok-told-in-Slice.told c.in-Slice.is (c.in_ok-told-in-Slice.ensures {u = tt})

pub returns-in_ok-told-in-Concat : goal.returns-in_ok-told-in-Concat
returns-in_ok-told-in-Concat c =
    let ws = c.args.wires.now.list.items in
    some_parts ws c.args.right.now c.in-Concat.operands c.args.hi c.args.lo c.in_ok-told-in-Concat.told c.in-Concat.is
    (subst (λ (os : List Operand). IfSome c.in_ok-told-in-Concat.told (λ r. OfParts ws os c.args.hi c.args.lo r)) c.as_slice.ensures (c.in_ok-told-in-Concat.ensures {u = tt}))
