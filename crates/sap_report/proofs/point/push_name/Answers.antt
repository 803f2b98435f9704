use Rattle.sap_check.specs.Checked.{tree_in}
use Rattle.sap_report.proofs.PointLines.{name_free, name_hung, says_so}
use Rattle.sap_report.proofs.point.push_name.Goals as goal

pub returns-in_ok-push_entity-clause-hangs : goal.returns-in_ok-push_entity-clause-hangs
returns-in_ok-push_entity-clause-hangs c = says_so (tree_in c.args.checked.now) c.args.table.now c.args.point c.args.entity _ c.requires.table c.hangs-hung.ensures

pub returns-in_ok-push_entity-clause-name : goal.returns-in_ok-push_entity-clause-name
returns-in_ok-push_entity-clause-name c =
    name_hung (tree_in c.args.checked.now) c.args.point c.args.entity _ c.args.out.now.items _ _
    (says_so (tree_in c.args.checked.now) c.args.table.now c.args.point c.args.entity _ c.requires.table c.hangs-hung.ensures)
    c.if-hung.true c.in_ok-extend_from_slice.ensures.items
    c.in_ok-push_entity.ensures.text

pub returns-else-hung-clause-hangs : goal.returns-else-hung-clause-hangs
returns-else-hung-clause-hangs c = says_so (tree_in c.args.checked.now) c.args.table.now c.args.point c.args.entity _ c.requires.table c.hangs-hung.ensures

pub returns-else-hung-clause-name : goal.returns-else-hung-clause-name
returns-else-hung-clause-name c =
    name_free (tree_in c.args.checked.now) c.args.point c.args.entity _ c.args.out.now.items
    (says_so (tree_in c.args.checked.now) c.args.table.now c.args.point c.args.entity _ c.requires.table c.hangs-hung.ensures) c.if-hung.false
