use Rattle.sap_lemmas.proofs.Common.{refl}
use Rattle.std.specs.Fmt.{digits}
use Rattle.sap_lattice.specs.Prelude.{order_of, order_by, code_of, meet_irreducibles}
use Rattle.sap_check.specs.SiteTexts.{site_target}
use Rattle.sap_explain.specs.Explanation.{groups_below}
use Rattle.sap_explain.proofs.examples.worked_explanations.Goals as goal

pub returns-clause-one_state : goal.returns-clause-one_state
unfolding digits order_of order_by code_of meet_irreducibles site_target groups_below
returns-clause-one_state c = refl

pub returns-clause-two_children : goal.returns-clause-two_children
unfolding digits site_target groups_below
returns-clause-two_children c = (refl, refl)

pub returns-clause-two_parts : goal.returns-clause-two_parts
unfolding digits order_of order_by code_of meet_irreducibles site_target groups_below
returns-clause-two_parts c = refl
