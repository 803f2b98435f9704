use Rattle.sap_check.specs.Checked.{tree_in}
use Rattle.sap_check.specs.Points.{points_of}
use Rattle.sap_report.proofs.PointLines.{points_step}
use Rattle.sap_report.proofs.point.push_points.Goals as goal

pub loop-place-preserved : goal.loop-place-preserved
loop-place-preserved c =
    points_step (tree_in c.args.checked.now) (points_of (tree_in c.args.checked.now)) c.loop-place.place c.point.result.now
    _ _ _ c.point.ensures c.in_ok-push_point.ensures c.loop-place.invariant
