use Rattle.std.proofs.Common.{◌≡◌, ◌-◌, ◌∙◌, suc, ℕ, List, ap, ap₂, arith}
use Rattle.sap_hang.specs.Hang.{Table}
use Rattle.sap_hang.specs.Rows.{rows_of}
use Rattle.sap_hang.specs.declared.set.Set.{Set}
use Rattle.sap_hang.proofs.Tables.{hung, no_entity, no_point}
use Rattle.sap_hang.proofs.table.HangTable.hangs.Goals as goal

pub returns-in-Some-get : goal.returns-in-Some-get
returns-in-Some-get c =
    let at : c.args.point ≡ suc (c.args.point - 1) = omega arith in
    hung c.deref-in-Some.result.now c.deref.result.now c.args.self.now c.args.point (c.args.point - 1) c.args.entity
    (ap₂ (λ (f : List ℕ) (r : List Set). rows_of f r) c.deref-in-Some.ensures.value c.deref.ensures.value ∙ ap (λ (t : Table). t.points) c.self.view_is) at
    c.in-Some.row.now c.in-Some-get.number.now c.has.result c.in-Some.ensures.lookup.0 c.in-Some.ensures.lookup.1
    c.in-Some-get.ensures.lookup.0 c.in-Some-get.ensures.lookup.1 c.has.ensures

pub returns-in-None-get : goal.returns-in-None-get
returns-in-None-get c =
    let at : c.args.point ≡ suc (c.args.point - 1) = omega arith in
    no_entity c.deref-in-Some.result.now c.deref.result.now c.args.self.now c.args.point (c.args.point - 1) c.args.entity
    (ap₂ (λ (f : List ℕ) (r : List Set). rows_of f r) c.deref-in-Some.ensures.value c.deref.ensures.value ∙ ap (λ (t : Table). t.points) c.self.view_is) at
    c.in-Some.row.now c.in-Some.ensures.lookup.0 c.in-Some.ensures.lookup.1 c.in-None-get.ensures.lookup.0

pub returns-in-None : goal.returns-in-None
returns-in-None c =
    let at : c.args.point ≡ suc (c.args.point - 1) = omega arith in
    no_point c.self.inside.firsts.items c.deref.result.now c.args.self.now c.args.point (c.args.point - 1) c.args.entity
    (ap (λ (r : List Set). rows_of c.self.inside.firsts.items r) c.deref.ensures.value ∙ ap (λ (t : Table). t.points) c.self.view_is) at
    c.in-None.ensures.lookup.0
