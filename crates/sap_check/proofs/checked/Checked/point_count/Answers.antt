use Rattle.std.proofs.Common.{ap, length, arith}
use Rattle.sap_check.proofs.Counts.{few_points}
use Rattle.sap_check.proofs.checked.Checked.point_count.Goals as goal

pub overflow_cast-result : goal.overflow_cast-result
overflow_cast-result c =
    let few = few_points _ c.design_is_whole.ensures in
    let all = ap length c.args.self.now.points_are in
    omega (arith, c.args.self.now.points.ok.0)
