use Rattle.sap_lemmas.proofs.Common.{ap, on_ok_weaker}
use Rattle.sap_tree.specs.Trees.{simple_of}
use Rattle.sap_hang.specs.Walks.{declared_in, entities_in, home_of}
use Rattle.sap_hang.proofs.Simples.{assign_assigns, assign_touches, write_assigns, write_touches, tag_assigns, tag_touches, cell_tag_assigns, cell_tag_touches, goto_assigns, goto_touches, fall_assigns, fall_adds}
use Rattle.sap_hang.proofs.simple.add_simple.Goals as goal

pub returns-in-Assign-clause-assigned : goal.returns-in-Assign-clause-assigned
returns-in-Assign-clause-assigned c =
    on_ok_weaker c.add_store.result
    (λ a. assign_assigns (entities_in c.args.standing.now) (declared_in c.args.standing.now) (home_of c.args.standing.now)
    (simple_of c.args.command.now) _ _ c.args.assigned.now c.add_store.new.assigned (ap simple_of c.in-Assign.is) a)
    c.add_store.ensures.assigned

pub returns-in-Assign-clause-touched : goal.returns-in-Assign-clause-touched
returns-in-Assign-clause-touched c =
    on_ok_weaker c.add_store.result
    (λ a. assign_touches (entities_in c.args.standing.now) (declared_in c.args.standing.now) (home_of c.args.standing.now)
    (simple_of c.args.command.now) _ _ c.args.touched.now c.add_store.new.touched (ap simple_of c.in-Assign.is) a)
    c.add_store.ensures.touched

pub returns-in-Write-clause-assigned : goal.returns-in-Write-clause-assigned
returns-in-Write-clause-assigned c =
    on_ok_weaker c.add_store-in-Write.result
    (λ a. write_assigns (entities_in c.args.standing.now) (declared_in c.args.standing.now) (home_of c.args.standing.now)
    (simple_of c.args.command.now) _ _ _ c.args.assigned.now c.add_store-in-Write.new.assigned (ap simple_of c.in-Write.is) a)
    c.add_store-in-Write.ensures.assigned

pub returns-in-Write-clause-touched : goal.returns-in-Write-clause-touched
returns-in-Write-clause-touched c =
    on_ok_weaker c.add_store-in-Write.result
    (λ a. write_touches (entities_in c.args.standing.now) (declared_in c.args.standing.now) (home_of c.args.standing.now)
    (simple_of c.args.command.now) _ _ _ c.args.touched.now c.add_store-in-Write.new.touched (ap simple_of c.in-Write.is) a)
    c.add_store-in-Write.ensures.touched

pub returns-in-SetTag-clause-assigned : goal.returns-in-SetTag-clause-assigned
returns-in-SetTag-clause-assigned c =
    tag_assigns (entities_in c.args.standing.now) (declared_in c.args.standing.now) (home_of c.args.standing.now)
    (simple_of c.args.command.now) _ _ _ c.args.assigned.now (ap simple_of c.in-SetTag.is)

pub returns-in-SetTag-clause-touched : goal.returns-in-SetTag-clause-touched
returns-in-SetTag-clause-touched c =
    tag_touches (entities_in c.args.standing.now) (declared_in c.args.standing.now) (home_of c.args.standing.now)
    (simple_of c.args.command.now) _ _ _ c.args.touched.now (ap simple_of c.in-SetTag.is)

pub returns-in-SetCellTag-clause-assigned : goal.returns-in-SetCellTag-clause-assigned
returns-in-SetCellTag-clause-assigned c =
    cell_tag_assigns (entities_in c.args.standing.now) (declared_in c.args.standing.now) (home_of c.args.standing.now)
    (simple_of c.args.command.now) _ _ _ _ c.args.assigned.now (ap simple_of c.in-SetCellTag.is)

pub returns-in-SetCellTag-clause-touched : goal.returns-in-SetCellTag-clause-touched
returns-in-SetCellTag-clause-touched c =
    cell_tag_touches (entities_in c.args.standing.now) (declared_in c.args.standing.now) (home_of c.args.standing.now)
    (simple_of c.args.command.now) _ _ _ _ c.args.touched.now (ap simple_of c.in-SetCellTag.is)

pub returns-in-Goto-clause-assigned : goal.returns-in-Goto-clause-assigned
returns-in-Goto-clause-assigned c =
    on_ok_weaker c.add_dynamic.result
    (λ u. goto_assigns (entities_in c.args.standing.now) (declared_in c.args.standing.now) (home_of c.args.standing.now)
    (simple_of c.args.command.now) _ _ c.args.assigned.now (ap simple_of c.in-Goto.is))
    c.add_dynamic.ensures

pub returns-in-Goto-clause-touched : goal.returns-in-Goto-clause-touched
returns-in-Goto-clause-touched c =
    on_ok_weaker c.add_dynamic.result
    (λ a. goto_touches (entities_in c.args.standing.now) (declared_in c.args.standing.now) (home_of c.args.standing.now)
    (simple_of c.args.command.now) _ _ c.args.touched.now c.add_dynamic.new.set (ap simple_of c.in-Goto.is) a)
    c.add_dynamic.ensures

pub returns-in-Fall-clause-assigned : goal.returns-in-Fall-clause-assigned
returns-in-Fall-clause-assigned c =
    on_ok_weaker c.union.result
    (λ u. fall_assigns (entities_in c.args.standing.now) (declared_in c.args.standing.now) (home_of c.args.standing.now)
    (simple_of c.args.command.now) _ c.args.assigned.now (ap simple_of c.in-Fall.is))
    c.union.ensures

pub returns-in-Fall-clause-touched : goal.returns-in-Fall-clause-touched
returns-in-Fall-clause-touched c =
    on_ok_weaker c.union.result
    (λ u. fall_adds (entities_in c.args.standing.now) (declared_in c.args.standing.now) (home_of c.args.standing.now)
    (simple_of c.args.command.now) _ c.args.standing.now.falls.now c.args.touched.now c.union.new.self
    (ap simple_of c.in-Fall.is) c.requires.1 u)
    c.union.ensures
