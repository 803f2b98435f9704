use Rattle.sap_lattice.proofs.NameLemmas.{found_at}
use Rattle.sap_lattice.proofs.lattice.Lattice.level_named.Goals as goal

pub returns-in-Some : goal.returns-in-Some
returns-in-Some c = found_at c.args.self.now.names c.lawful.ensures.names c.args.name.now c.in-Some.level c.in-Some.ensures.0 c.in-Some.ensures.1
