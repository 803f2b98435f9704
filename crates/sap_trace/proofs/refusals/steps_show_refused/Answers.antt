use Rattle.sap_check.specs.Checked.{levels_in, tree_in}
use Rattle.sap_trace.proofs.Shows.{steps_show}
use Rattle.sap_trace.proofs.refusals.steps_show_refused.Goals as goal

pub returns : goal.returns
returns c =
    steps_show (levels_in c.args.checked.now) (tree_in c.args.checked.now) c.args.netlist.now c.known.ensures.in_order c.requires
    c.known.ensures.order c.known.ensures.numbering c.stimulus_fits.ensures
    c.one_run.ensures.some
