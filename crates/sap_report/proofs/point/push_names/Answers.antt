use Rattle.sap_report.proofs.PointLines.{names-none, names-some}
use Rattle.sap_report.proofs.point.push_names.Goals as goal

pub returns-in_ok-extend_from_slice : goal.returns-in_ok-extend_from_slice
returns-in_ok-extend_from_slice c =
    names-none _ _ _ _ _ c.in_ok-none.ensures.none c.if-none.true c.in_ok-none.ensures.names c.in_ok-extend_from_slice.ensures.items

pub returns-else-none : goal.returns-else-none
returns-else-none c = names-some _ _ _ _ c.in_ok-none.ensures.none c.if-none.false c.in_ok-none.ensures.names
