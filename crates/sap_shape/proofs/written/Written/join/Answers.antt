use Rattle.std.proofs.Common.{◌∙◌, ap, sym, arith}
use Rattle.sap_shape.specs.Lists.{written_in}
use Rattle.sap_shape.specs.Walk.{Written, either}
use Rattle.sap_shape.proofs.Sets.{join_step, either_fresh, written-past}
use Rattle.sap_shape.proofs.written.Written.join.Goals as goal

pub loop-name-preserved : goal.loop-name-preserved
loop-name-preserved c =
    join_step c.deref-name-items.result.now c.loop-name.name-index c.name-item.result _ _ (omega arith) c.name-item.is c.in_ok-add.ensures ∙ c.loop-name.invariant

pub returns : goal.returns
returns c =
    sym (either_fresh (written_in c.loop-name.self))
    ∙ ap (λ (p : Written). either (written_in c.loop-name.self) p) (sym (written-past c.deref-name-items.result.now c.loop-name.name-index (omega arith)))
    ∙ c.loop-name.invariant
