use Rattle.std.proofs.Common.{arith, refl, ap, ◌∙◌}
use Rattle.sap_hang.specs.Hang.{says}
use Rattle.sap_resolve.proofs.Chosen.{taken, passed, rises_made, flags_made}
use Rattle.sap_resolve.proofs.rows.row.Goals as goal
use Rattle.sap_resolve.proofs.rows.row.Goals.{then-hangs+in_ok-push, else-hangs}

pub loop-entity-preserved : goal.loop-entity-preserved
loop-entity-preserved c = elim c.if-hangs.branch [
  | then-hangs+in_ok-push w ↦
      taken (says c.args.table.now c.args.point) c.loop-entity.entity c.loop-entity.entity c.hangs.result c.loop-entity.numbers.items
      c.if-hangs.numbers.items w.if-hangs.true c.hangs.ensures refl c.loop-entity.invariant
      (ap (λ v. v.items) w.numbers-is ∙ w.in_ok-push.ensures.items)
  | else-hangs w ↦
      passed (says c.args.table.now c.args.point) c.loop-entity.entity c.hangs.result c.loop-entity.numbers.items c.if-hangs.numbers.items
      w.if-hangs.false c.hangs.ensures c.loop-entity.invariant
      (ap (λ v. v.items) w.numbers-is)
]

pub new-requires : goal.new-requires
new-requires c = rises_made (says c.args.table.now c.args.point) c.loop-entity.entity _ c.loop-entity.invariant

pub returns : goal.returns
returns c = flags_made (says c.args.table.now c.args.point) c.args.count c.loop-entity.entity _ _ c.loop-entity.invariant c.new.ensures (omega arith)
