use Rattle.sap_latfile.proofs.laws.one_lattice.Goals as goal
use Rattle.sap_latfile.proofs.OneLattice.{one_lattice}

pub returns : goal.returns
returns c = one_lattice
