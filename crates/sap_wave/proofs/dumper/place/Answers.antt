use Rattle.std.proofs.Common.{◌≡◌, List, ℕ, None, subst}
use Rattle.sap_maps.specs.Scope.{find}
use Rattle.sap_net.specs.Prelude.{Net, IsNetlist, readable}
use Rattle.sap_wave.proofs.Seen.{can_be_found}
use Rattle.sap_wave.proofs.dumper.place.Goals as goal

pub unreachable-requires : goal.unreachable-requires
unreachable-requires c =
    let n = c.args.runner.now.net in
    let net : IsNetlist c.args.runner.now.net = subst (λ (m : Net). IsNetlist m) c.netlist.ensures c.rules.ensures in
    can_be_found n net c.args.name.now c.requires
    (subst (λ (x : List ℕ). find (readable c.args.runner.now.net) x ≡ None) c.as_str.ensures c.in-None.ensures.found)
