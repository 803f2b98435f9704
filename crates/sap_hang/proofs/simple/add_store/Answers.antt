use Rattle.sap_lemmas.proofs.Common.{sym, on_ok_weaker}
use Rattle.sap_tree.specs.Touches.{is_dynamic_store}
use Rattle.sap_hang.specs.Walks.{entities_in, declared_in}
use Rattle.sap_hang.proofs.Adds.{adds_passed}
use Rattle.sap_hang.proofs.simple.add_store.Goals as goal

pub returns-in_ok-insert-in-Some-clause-assigned : goal.returns-in_ok-insert-in-Some-clause-assigned
returns-in_ok-insert-in-Some-clause-assigned c =
    on_ok_weaker c.insert-in-Some.result
    (λ u. adds_passed (entities_in c.args.standing.now) (λ x. is_dynamic_store (declared_in c.args.standing.now) x) c.args.name.now
    c.in-Some.number c.args.standing.now.walk.now.stores
    c.args.assigned.now c.insert.new.self c.requires.0 c.in-Some.ensures (sym c.if-not-has.ensures) c.in_ok-insert-in-Some.ensures)
    c.insert-in-Some.ensures

pub returns-in_ok-insert-in-Some-clause-touched : goal.returns-in_ok-insert-in-Some-clause-touched
returns-in_ok-insert-in-Some-clause-touched c =
    on_ok_weaker c.insert-in-Some.result
    (λ u. adds_passed (entities_in c.args.standing.now) (λ x. is_dynamic_store (declared_in c.args.standing.now) x) c.args.name.now
    c.in-Some.number c.args.standing.now.walk.now.stores
    c.args.touched.now c.insert-in-Some.new.self c.requires.0 c.in-Some.ensures (sym c.if-not-has.ensures) u)
    c.insert-in-Some.ensures
