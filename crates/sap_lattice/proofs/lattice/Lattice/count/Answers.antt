use Rattle.std.proofs.Common.{rules}
use Rattle.sap_lattice.specs.Levels.{order_by, order_of}
use Rattle.sap_lattice.proofs.lattice.Lattice.count.Goals as goal

pub returns-clause-levels : goal.returns-clause-levels
unfolding order_of order_by
returns-clause-levels c = search rules
