use Rattle.std.proofs.Common.{◌∙◌, ℕ, List, ap}
use Rattle.sap_hang.specs.Hang.{Table}
use Rattle.sap_hang.specs.Rows.{row_of}
use Rattle.sap_hang.proofs.Tables.{root_hung, root_no_entity}
use Rattle.sap_hang.proofs.table.HangTable.touched_by_root.Goals as goal

pub returns-in-Some : goal.returns-in-Some
returns-in-Some c =
    root_hung c.deref.result.now c.self.inside.root c.args.self.now c.args.entity
    (ap (λ (f : List ℕ). row_of f c.self.inside.root) c.deref.ensures.value ∙ ap (λ (t : Table). t.root) c.self.view_is)
    c.in-Some.number.now c.has.result c.in-Some.ensures.lookup.0 c.in-Some.ensures.lookup.1 c.has.ensures

pub returns-in-None : goal.returns-in-None
returns-in-None c =
    root_no_entity c.deref.result.now c.self.inside.root c.args.self.now c.args.entity
    (ap (λ (f : List ℕ). row_of f c.self.inside.root) c.deref.ensures.value ∙ ap (λ (t : Table). t.root) c.self.view_is)
    c.in-None.ensures.lookup.0
