use Rattle.sap_lemmas.proofs.Common.{sym, bytes_eq, on_ok_weaker}
use Rattle.sap_tree.specs.Touches.{is_dynamic_kind}
use Rattle.sap_hang.proofs.Adds.{adds_name, adds_where}
use Rattle.sap_hang.proofs.simple.add_dynamic.Goals as goal

pub returns-in-Some : goal.returns-in-Some
returns-in-Some c =
    on_ok_weaker c.insert.result
    (λ u. adds_where c.args.names.now (λ x. bytes_eq c.args.name.now x) (is_dynamic_kind c.args.kind.now) c.args.set.now c.insert.new.self (sym c.if-not-is_dynamic.ensures)
    (adds_name c.args.names.now c.args.name.now c.in-Some.number c.args.set.now c.insert.new.self c.in-Some.ensures u))
    c.insert.ensures
