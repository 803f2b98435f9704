use Rattle.sap_stim.proofs.Coded.{level_found, found_within}
use Rattle.sap_lattice.specs.Prelude.{order_of, order_by, code_of}
use Rattle.std.proofs.Common.{◌≡◌, length}
use Rattle.sap_stim.proofs.rows.level_of_tag.Goals as goal

pub returns-clause-coded : goal.returns-clause-coded
unfolding order_of order_by
returns-clause-coded c = level_found (code_of (order_of c.args.lattice.now)) (length c.args.lattice.now.names) c.args.tag
    c.level_of_code.result c.lawful.ensures.codes.apart c.level_of_code.ensures

pub returns-clause-level : goal.returns-clause-level
unfolding order_of order_by
returns-clause-level c = found_within (length c.args.lattice.now.names) _ (λ x. code_of (order_of c.args.lattice.now) x ≡ c.args.tag) c.level_of_code.result c.level_of_code.ensures
