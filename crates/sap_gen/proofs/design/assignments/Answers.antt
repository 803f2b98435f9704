use Rattle.sap_tree.specs.Trees.{command_of}
use Rattle.sap_gen.specs.Design.{assignment}
use Rattle.sap_gen.proofs.Built.{one_more}
use Rattle.sap_gen.proofs.design.assignments.Goals as goal

pub loop-register-preserved : goal.loop-register-preserved
loop-register-preserved c =
    one_more command_of (assignment c.args.size.registers c.args.state) c.loop-register.commands.items _ _ c.loop-register.register c.loop-register.invariant
    c.in_ok-push.ensures.items c.in_ok-assignment.ensures
