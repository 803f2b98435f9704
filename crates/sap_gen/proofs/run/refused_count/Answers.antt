use Rattle.std.proofs.Common.{◌+◌, Bool, add-zero, sym, ap, ◌∙◌, arith}
use Rattle.sap_sem.specs.Machine.{refused_at}
use Rattle.sap_gen.proofs.Counted.{counted_more, one_if}
use Rattle.sap_gen.proofs.run.refused_count.Goals as goal
use Rattle.sap_gen.proofs.run.refused_count.Goals.{then-is_some, else-is_some}

pub loop-site-preserved : goal.loop-site-preserved
loop-site-preserved c = record {
  count = counted_more (refused_at c.args.machine.now) c.loop-site.site c.loop-site.count c.if-is_some.count c.refused.result c.is_some.result
      c.loop-site.invariant.count c.refused.ensures c.is_some.ensures
      (elim c.if-is_some.branch [
        | then-is_some w ↦ w.count-is ∙ ap (λ (b : Bool). c.loop-site.count + one_if b) (sym w.if-is_some.true)
        | else-is_some w ↦ w.count-is ∙ sym (add-zero c.loop-site.count) ∙ ap (λ (b : Bool). c.loop-site.count + one_if b) (sym w.if-is_some.false)
      ]);
  few = elim c.if-is_some.branch [ then-is_some w ↦ omega arith | else-is_some w ↦ omega arith ];
}
