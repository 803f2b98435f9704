use Rattle.std.proofs.Common.{arith, refl, ap, ◌∙◌}
use Rattle.sap_hang.specs.Hang.{says_of_root}
use Rattle.sap_resolve.proofs.Chosen.{taken, passed, rises_made, flags_made}
use Rattle.sap_resolve.proofs.rows.root_row.Goals as goal
use Rattle.sap_resolve.proofs.rows.root_row.Goals.{then-touched_by_root+in_ok-push, else-touched_by_root}

pub loop-entity-preserved : goal.loop-entity-preserved
loop-entity-preserved c = elim c.if-touched_by_root.branch [
  | then-touched_by_root+in_ok-push w ↦
      taken (says_of_root c.args.table.now) c.loop-entity.entity c.loop-entity.entity c.touched_by_root.result c.loop-entity.numbers.items
      c.if-touched_by_root.numbers.items w.if-touched_by_root.true c.touched_by_root.ensures refl c.loop-entity.invariant
      (ap (λ v. v.items) w.numbers-is ∙ w.in_ok-push.ensures.items)
  | else-touched_by_root w ↦
      passed (says_of_root c.args.table.now) c.loop-entity.entity c.touched_by_root.result c.loop-entity.numbers.items
      c.if-touched_by_root.numbers.items w.if-touched_by_root.false c.touched_by_root.ensures c.loop-entity.invariant
      (ap (λ v. v.items) w.numbers-is)
]

pub new-requires : goal.new-requires
new-requires c = rises_made (says_of_root c.args.table.now) c.loop-entity.entity _ c.loop-entity.invariant

pub returns : goal.returns
returns c = flags_made (says_of_root c.args.table.now) c.args.count c.loop-entity.entity _ _ c.loop-entity.invariant c.new.ensures (omega arith)
