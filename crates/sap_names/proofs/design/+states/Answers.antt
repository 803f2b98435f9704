use Rattle.std.proofs.Common.{◌∙◌, arith}
use Rattle.sap_lattice.specs.Levels.{order_of}
use Rattle.sap_names.specs.Entities.{what_is}
use Rattle.sap_names.proofs.Lists.{states_step}
use Rattle.sap_names.proofs.design.+states.Goals as goal

pub states_faults-loop-state-preserved : goal.states_faults-loop-state-preserved
states_faults-loop-state-preserved t c =
    states_step c.args.lattice.now.names (order_of c.args.lattice.now).le (what_is c.args.names.now) c.args.states.now
    c.loop-state.state-index c.state-item.result _ _ (omega arith)
    c.state-item.is c.state_faults.ensures ∙ c.loop-state.invariant
