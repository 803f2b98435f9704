use Rattle.sap_lattice.proofs.KeptLemmas.{le_by_codes}
use Rattle.sap_lattice.proofs.lattice.Lattice.le.Goals as goal

pub returns : goal.returns
returns c =
    le_by_codes c.args.self.now c.lawful.ensures.codes c.args.x c.args.y c.code.result c.code-upper.result c.code.ensures c.code-upper.ensures
