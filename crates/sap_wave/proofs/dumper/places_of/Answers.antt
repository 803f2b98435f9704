use Rattle.std.proofs.Common.{◌≡◌, true, subst, sym}
use Rattle.sap_net.specs.Prelude.{Net, is_among, IsNetlist, register_names}
use Rattle.sap_wave.specs.declared.variable.Variable.{Variable}
use Rattle.sap_wave.proofs.Placed.{stand_more}
use Rattle.sap_wave.proofs.Seen.{variable_is_register}
use Rattle.sap_wave.proofs.dumper.places_of.Goals as goal

pub place-requires : goal.place-requires
place-requires c =
    let n = c.args.runner.now.net in
    let net : IsNetlist c.args.runner.now.net = subst (λ (m : Net). IsNetlist m) c.netlist.ensures c.rules.ensures in
    subst (λ (x : Variable). is_among x.name (register_names c.args.runner.now.net) ≡ true) (sym c.variable-item.is)
    (variable_is_register n net c.args.variables.now c.loop-variable.variable-index c.variable-item.result c.requires c.loop-variable-test.true)

pub loop-variable-preserved : goal.loop-variable-preserved
loop-variable-preserved c =
    stand_more c.args.runner.now.net c.args.variables.now c.loop-variable.variable-index c.variable-item.result c.loop-variable.places.items c.push.new.self.items c.place.result
    c.loop-variable-test.true c.variable-item.is c.loop-variable.invariant c.place.ensures.is c.in_ok-push.ensures.items
