use Rattle.std.proofs.Common.{ap, ◌∙◌, subst}
use Rattle.sap_net.specs.Laws.{SomeRun}
use Rattle.sap_check.specs.Checked.{levels_in, tree_in}
use Rattle.sap_sim.specs.Stepped.{Stepped}
use Rattle.sap_trace.specs.declared.wires.Wires.{Wires}
use Rattle.sap_trace.proofs.Stepping.{add_up}
use Rattle.sap_trace.proofs.tracing.Tracing.lines_add_up.Goals as goal

pub returns : goal.returns
returns c =
    let ls = levels_in c.args.checked.now in
    let d = tree_in c.args.checked.now in
    add_up ls d c.args.self.now.runner.net c.requires.stands c.known.ensures.order c.stimulus_fits.ensures c.known.ensures.codes
    c.known.ensures.some c.known.ensures.numbering c.known.ensures.in_order
    (subst SomeRun (c.netlist-netlist.ensures ∙ ap (λ (s : Stepped Wires). s.runner.net) c.self.view_is) c.one_run.ensures.some)
