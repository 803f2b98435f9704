use Rattle.sap_lemmas.proofs.Common.{refl}
use Rattle.std.specs.Fmt.{digits}
use Rattle.sap_tree.specs.Touches.{is_dynamic_store, simple_touches, touches, block_touches, else_touches, list_touches}
use Rattle.sap_lattice.specs.Prelude.{order_of, order_by, code_of, meet_irreducibles}
use Rattle.sap_check.specs.SiteTexts.{site_target}
use Rattle.sap_report.specs.Report.{site_head}
use Rattle.sap_report.proofs.examples.worked_reports.Goals as goal

pub returns-clause-one_point : goal.returns-clause-one_point
unfolding digits order_of order_by code_of meet_irreducibles site_head site_target is_dynamic_store simple_touches touches block_touches else_touches list_touches
returns-clause-one_point c = refl

pub returns-clause-five_levels : goal.returns-clause-five_levels
unfolding digits order_of order_by code_of meet_irreducibles site_head site_target
returns-clause-five_levels c = refl
