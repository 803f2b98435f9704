use Rattle.std.proofs.Common.{◌≡◌, ◌∙◌, None, Some, sym, ap, rules}
use Rattle.sap_share.specs.NameTables.{of_name}
use Rattle.sap_share.proofs.NameTables.{added_new, put_back, puts}
use Rattle.sap_share.proofs.name_table.index.Goals as goal

pub returns-in_ok-put : goal.returns-in_ok-put
returns-in_ok-put c = λ names l is.
    let m = c.args.places.now in
    let m' = c.insert.new.self in
    let x = c.args.name.now in
    let e : c.in_ok-key.key ≡ x = search rules in
    let had : of_name m x ≡ Some c.in-Some.first = sym (ap (of_name m) e) ∙ sym c.in_ok-first.ensures.old ∙ c.in-Some.is in
    let p = puts m m' c.in_ok-key.key x c.args.place e c.in_ok-first.ensures.updates in
    put_back (of_name m) (of_name m') (of_name c.put.new.table) names x c.args.place c.in-Some.first had p (c.in_ok-put.ensures {u = tt}) is

pub returns-in_default : goal.returns-in_default
returns-in_default c = λ names l is.
    let m = c.args.places.now in
    let m' = c.insert.new.self in
    let x = c.args.name.now in
    let e : c.in_ok-key.key ≡ x = search rules in
    let new : of_name m x ≡ None = sym (ap (of_name m) e) ∙ sym c.in_ok-first.ensures.old ∙ c.in_default.is in
    let p = puts m m' c.in_ok-key.key x c.args.place e c.in_ok-first.ensures.updates in
    added_new (of_name m) (of_name m') names x c.args.place new p l is
