use Rattle.sap_lemmas.proofs.Common.{refl}
use Rattle.std.specs.Fmt.{digits}
use Rattle.sap_lattice.specs.Prelude.{order_of, order_by, code_of, meet_irreducibles}
use Rattle.sap_wave_rows.proofs.worked_rows.Goals as goal

pub returns-clause-row : goal.returns-clause-row
unfolding digits order_of order_by code_of meet_irreducibles
returns-clause-row c = refl

pub returns-clause-nothing_shown : goal.returns-clause-nothing_shown
unfolding digits order_of order_by code_of meet_irreducibles
returns-clause-nothing_shown c = refl

pub returns-clause-no_cycle : goal.returns-clause-no_cycle
unfolding digits order_of order_by code_of meet_irreducibles
returns-clause-no_cycle c = refl
