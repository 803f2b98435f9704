use Rattle.std.proofs.Common.{◌∙◌, ◌<◌, Some, sym, ap, length, arith}
use Rattle.sap_maps.specs.Scope.{find}
use Rattle.sap_share.proofs.Lookups.{entry_found, entry_missing}
use Rattle.sap_share.proofs.table.Table.get.Goals as goal

pub index-requires : goal.index-requires
index-requires g c =
    let es = c.self.inside.entries.items in
    let e = sym (c.self.invariant c.args.name.now) ∙ sym c.at_name.ensures ∙ c.in-Some.is in
    let l : c.in-Some.k < length es = (entry_found es c.args.name.now c.in-Some.k e).0 in
    let len = c.self.inside.entries.ok.0 in
    omega (arith, len, l)

pub returns-in-Some : goal.returns-in-Some
returns-in-Some g c =
    let es = c.self.inside.entries.items in
    let e = sym (c.self.invariant c.args.name.now) ∙ sym c.at_name.ensures ∙ c.in-Some.is in
    let f = (entry_found es c.args.name.now c.in-Some.k e).1 c.index.result.now in
    ap (λ x. Some (x.1)) c.index.ensures ∙ sym f ∙ ap (λ xs. find xs c.args.name.now) c.self.view_is

pub returns-in-None : goal.returns-in-None
returns-in-None g c =
    let es = c.self.inside.entries.items in
    let e = sym (c.self.invariant c.args.name.now) ∙ sym c.at_name.ensures ∙ c.in-None.is in
    sym (entry_missing es c.args.name.now e) ∙ ap (λ xs. find xs c.args.name.now) c.self.view_is
