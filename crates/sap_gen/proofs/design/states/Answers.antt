use Rattle.sap_tree.specs.Trees.{state_of}
use Rattle.sap_gen.specs.Design.{state}
use Rattle.sap_gen.proofs.Built.{one_more}
use Rattle.sap_gen.proofs.design.states.Goals as goal

pub loop-number-preserved : goal.loop-number-preserved
loop-number-preserved c =
    one_more state_of (state c.args.size.registers c.args.size.states) c.loop-number.states.items _ _ c.loop-number.number c.loop-number.invariant
    c.in_ok-push.ensures.items c.in_ok-state.ensures
