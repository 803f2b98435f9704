use Rattle.std.proofs.Common.{refl}
use Rattle.sap_lattice.specs.Prelude.{order_of, order_by, code_of, meet_irreducibles}
use Rattle.sap_sim.proofs.worked_layout.Goals as goal

pub returns-clause-fields : goal.returns-clause-fields
unfolding order_of order_by meet_irreducibles
returns-clause-fields c = refl

pub returns-clause-numbers : goal.returns-clause-numbers
unfolding order_of order_by code_of meet_irreducibles
returns-clause-numbers c = refl

pub returns-clause-registers : goal.returns-clause-registers
unfolding order_of order_by meet_irreducibles
returns-clause-registers c = refl
