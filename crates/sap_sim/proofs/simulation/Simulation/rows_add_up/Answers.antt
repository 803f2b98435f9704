use Rattle.std.proofs.Common.{ap, ◌∙◌, subst}
use Rattle.sap_sim.specs.declared.steps.Plan.{Plan}
use Rattle.sap_sim.specs.Prelude.{Stepped, RowsAddUp}
use Rattle.sap_sim.proofs.Stepping.{add_up}
use Rattle.sap_sim.proofs.simulation.Simulation.rows_add_up.Goals as goal

pub returns : goal.returns
returns c =
    subst (RowsAddUp c.args.lattice.now) (c.netlist-netlist.ensures ∙ ap (λ (s : Stepped Plan). s.runner.net) c.self.view_is)
    (add_up c.args.lattice.now c.netlist-netlist.result.now c.rules.ensures c.lawful.ensures.codes c.lawful.ensures.order c.stimulus_fits.ensures c.one_run.ensures.some)
