use Rattle.std.proofs.Common.{refl}
use Rattle.sap_lattice.specs.Levels.{order_of, order_by}
use Rattle.sap_secure.proofs.check_sites.examples.worked_numbers.Goals as goal

pub returns : goal.returns
unfolding order_of order_by
returns c = refl
