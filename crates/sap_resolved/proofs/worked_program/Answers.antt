use Rattle.std.proofs.Common.{refl}
use Rattle.sap_lattice.specs.Levels.{order_of, order_by}
use Rattle.sap_resolved.proofs.worked_program.Goals as goal

pub returns-clause-entities : goal.returns-clause-entities
unfolding order_of order_by
returns-clause-entities c = refl
