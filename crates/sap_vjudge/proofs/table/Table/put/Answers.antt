use Rattle.std.proofs.Common.{◌≡◌, refl, rules}
use Rattle.sap_vjudge.proofs.Tabled.{put_entry}
use Rattle.sap_vjudge.proofs.table.Table.put.Goals as goal

pub returns-clause-entries : goal.returns-clause-entries
returns-clause-entries c = λ n.
    let e : c.in_ok-key.key.items ≡ c.args.name.now = search rules in
    put_entry _ (λ a b. refl) c.in_ok-key.key c.args.entry n c.args.name.now _ _ e c.in_ok-insert.ensures.entries
