use Rattle.sap_gen.proofs.Built.{one_declared}
use Rattle.sap_gen.proofs.design.declarations.Goals as goal

pub loop-register-preserved : goal.loop-register-preserved
loop-register-preserved c =
    one_declared c.loop-register.declarations.items _ _ c.loop-register.register c.loop-register.invariant c.in_ok-push-2.ensures.items c.in_ok-declared_register.ensures
