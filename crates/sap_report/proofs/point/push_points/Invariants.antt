use Rattle.std.proofs.Common.{◌≡◌, ◌++◌, ◌+◌, drop}
use Rattle.sap_check.specs.Checked.{tree_in}
use Rattle.sap_check.specs.Points.{points_of}
use Rattle.sap_report.specs.Report.{point_lines}
use Rattle.sap_report.proofs.point.push_points.Given as goal

-- with the points that are left
abbrev pub invariant-loop-place : goal.invariant-loop-place
invariant-loop-place l =
    l.out.items ++ point_lines (tree_in l.checked) (l.place + 1) (drop l.place (points_of (tree_in l.checked))) ≡ l.fn.out.items
    ++ point_lines (tree_in l.checked) 1 (points_of (tree_in l.checked))
