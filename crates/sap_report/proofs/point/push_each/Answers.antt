use Rattle.std.proofs.Common.{arith}
use Rattle.sap_check.specs.Checked.{tree_in}
use Rattle.sap_report.proofs.PointLines.{far_step}
use Rattle.sap_report.proofs.point.push_each.Goals as goal

pub loop-entity-preserved : goal.loop-entity-preserved
loop-entity-preserved c =
    far_step (tree_in c.args.checked.now) c.args.point c.loop-entity.entity c.loop-entity.none c.in_ok-hung.hung
    _ _ _ (omega (arith, c.loop-entity-test.true, c.entity_count-entity-end.ensures)) c.in_ok-hung.ensures.hangs c.in_ok-hung.ensures.name
    c.loop-entity.invariant
