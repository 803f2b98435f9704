use Rattle.std.proofs.Common.{◌≡◌, List, ℕ, None, subst}
use Rattle.sap_maps.specs.Scope.{find}
use Rattle.sap_net.specs.Prelude.{Net, IsNetlist, readable}
use Rattle.sap_sim.proofs.Registers.{register_found, register_utf8}
use Rattle.sap_sim.proofs.shown.place.Goals as goal

pub unreachable-requires : goal.unreachable-requires
unreachable-requires c =
    let n = c.args.runner.now.net in
    let net : IsNetlist c.args.runner.now.net = subst (λ (m : Net). IsNetlist m) c.netlist.ensures c.rules.ensures in
    register_found n net c.args.name.now c.requires
    (subst (λ (x : List ℕ). find (readable c.args.runner.now.net) x ≡ None) c.in-Ok.ensures.cases.0 c.in-None.ensures.found)

pub unreachable-requires-in-Err : goal.unreachable-requires-in-Err
unreachable-requires-in-Err c =
    let n = c.args.runner.now.net in
    let net : IsNetlist c.args.runner.now.net = subst (λ (m : Net). IsNetlist m) c.netlist.ensures c.rules.ensures in
    c.in-Err.ensures.cases.0 (register_utf8 n net c.args.name.now c.requires)
