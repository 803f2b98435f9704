use Rattle.std.proofs.Common.{◌≡◌, Some, rules}
use Rattle.sap_net.specs.PortNames.{behind}
use Rattle.sap_sim.proofs.Registers.{behind_inner}
use Rattle.sap_sim.proofs.shown.push_shown.Goals as goal

pub spelled-requires : goal.spelled-requires
spelled-requires c =
    let found : behind 118 c.args.name.now ≡ Some c.in-Some.x.now = search rules in
    behind_inner 118 c.args.name.now c.in-Some.x.now found c.requires
