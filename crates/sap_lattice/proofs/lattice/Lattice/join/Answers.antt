use Rattle.std.proofs.Common.{◌≡◌, ap, ap₂, Some}
use Rattle.std.specs.Prelude.{bit_or, is_some}
use Rattle.sap_lattice.specs.Levels.{order_of}
use Rattle.sap_lattice.proofs.KeptLemmas.{join_found}
use Rattle.sap_lattice.proofs.lattice.Lattice.join.Goals as goal
use Rattle.sap_lattice.proofs.lattice.Lattice.join.Goals.{After-level_of_code}

-- the search finds the join
found : (c : After-level_of_code) → c.level_of_code.result ≡ Some ((order_of c.args.self.now).join c.args.x c.args.y)
found c =
    join_found c.args.self.now c.lawful.ensures.order c.lawful.ensures.codes c.args.x c.args.y (bit_or c.code.result c.code-2.result) c.level_of_code.result
    (ap₂ bit_or c.code.ensures c.code-2.ensures) c.level_of_code.ensures

pub unwrap-requires : goal.unwrap-requires
unwrap-requires c = ap is_some (found (goal.at.unwrap-requires c).After-level_of_code)

pub returns : goal.returns
returns c =
    let here = found (goal.at.returns c).After-level_of_code in
    let told = c.unwrap.ensures in
    cc
