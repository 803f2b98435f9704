use Rattle.std.proofs.Common.{◌≡◌, rules}
use Rattle.sap_share.proofs.NameTables.{puts}
use Rattle.sap_share.proofs.name_table.put.Goals as goal

pub returns : goal.returns
returns g c =
    let e : c.in_ok-key.key ≡ c.args.name.now = search rules in
    puts c.args.table.now c.insert.new.self c.in_ok-key.key c.args.name.now c.args.value e c.in_ok-insert.ensures.updates
