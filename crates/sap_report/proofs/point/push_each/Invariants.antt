use Rattle.sap_check.specs.Checked.{tree_in}
use Rattle.sap_report.proofs.PointLines.{Far}
use Rattle.sap_report.proofs.point.push_each.Given as goal

-- with the entities that are left
abbrev pub invariant-loop-entity : goal.invariant-loop-entity
invariant-loop-entity l = Far (tree_in l.checked) l.point l.entity l.none l.out.items l.fn.out.items
