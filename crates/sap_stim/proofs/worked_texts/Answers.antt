use Rattle.sap_lemmas.proofs.Common.{refl}
use Rattle.std.specs.Fmt.{digits}
use Rattle.sap_lattice.specs.Prelude.{order_of, order_by, code_of, meet_irreducibles}
use Rattle.sap_stim.proofs.worked_texts.Goals as goal

pub returns-clause-plain_field : goal.returns-clause-plain_field
unfolding order_of order_by
returns-clause-plain_field c = refl

pub returns-clause-two_fields : goal.returns-clause-two_fields
unfolding order_of order_by
returns-clause-two_fields c = refl

pub returns-clause-row : goal.returns-clause-row
unfolding digits
returns-clause-row c = refl

pub returns-clause-row_of_tags : goal.returns-clause-row_of_tags
unfolding digits order_of order_by code_of meet_irreducibles
returns-clause-row_of_tags c = refl
