use Rattle.std.proofs.lemmas.Result.{on_ok_weaker}
use Rattle.sap_maps.specs.Scope.{find}
use Rattle.sap_trim.proofs.Staying.{register_stays}
use Rattle.sap_trim.proofs.stays.put_register.Goals as goal

pub returns : goal.returns
returns c =
    on_ok_weaker c.put.result
    (register_stays c.args.register.now (find c.args.stays.now) (find c.put.new.self) c.in_ok-name.name (c.in_ok-name.ensures {u = tt}) c.requires)
    c.put.ensures
