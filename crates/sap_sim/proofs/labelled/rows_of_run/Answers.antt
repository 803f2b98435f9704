use Rattle.std.proofs.Common.{◌<◌, length, arith}
use Rattle.sap_tree.specs.Designs.{design_of}
use Rattle.sap_sim.proofs.labelled.Designs.{is_run_of, same_fields}
use Rattle.sap_sim.proofs.labelled.rows_of_run.Goals as goal

pub returns-clause-runs : goal.returns-clause-runs
returns-clause-runs c = λ bytes rows sim.
    let some : 0 < length c.args.lattice.now.names = omega (arith, c.lawful.ensures.names.before.at_least_two) in
    is_run_of c.args.lattice.now (design_of c.args.design.now) c.args.netlist.now c.design_is_whole.ensures c.rules.ensures
    c.requires.stands c.lawful.ensures.codes c.lawful.ensures.order some c.stimulus_fits.ensures bytes rows sim

pub returns-clause-fields : goal.returns-clause-fields
returns-clause-fields c =
    same_fields c.args.lattice.now (design_of c.args.design.now) c.args.netlist.now c.design_is_whole.ensures c.rules.ensures c.requires.stands
