use Rattle.std.proofs.Common.{refl}
use Rattle.sap_tree.specs.Designs.{design_of}
use Rattle.sap_check.proofs.Accepted.{accepted}
use Rattle.sap_check.proofs.check.check.Goals as goal

pub returns-in-Err-clause-accepted : goal.returns-in-Err-clause-accepted
returns-in-Err-clause-accepted c =
    accepted c.args.lattice.now (design_of c.args.design) c.in-Err.fault (λ code place e. c.in-Err.ensures.first code place (rw e refl))
