use Rattle.sap_lemmas.proofs.Common.{◌≡◌, ◌∙◌, ◌<◌, sym, ap, length, arith, slice_set, keys_of}
use Rattle.sap_net.specs.NameMaps.{place_in}
use Rattle.sap_share.specs.Tables.{replaced}
use Rattle.sap_share.proofs.Lookups.{entry_found, missing_replaced, names_replaced, set_replaced}
use Rattle.sap_share.proofs.table.Table.replace.Goals as goal

pub index_mut-requires : goal.index_mut-requires
index_mut-requires g c =
    let es = c.self.inside.entries.items in
    let e = sym (c.self.invariant c.args.name.now) ∙ sym c.at_name.ensures ∙ c.in-Some.is in
    let l : c.in-Some.k < length es = (entry_found es c.args.name.now c.in-Some.k e).0 in
    let len = c.self.inside.entries.ok.0 in
    omega (arith, len, l)

pub invariant_of-self : goal.invariant_of-self
invariant_of-self g c = λ m.
    let es = c.self.inside.entries.items in
    let n = c.args.name.now in
    let e = sym (c.self.invariant n) ∙ sym c.at_name.ensures ∙ c.in-Some.is in
    let s : slice_set es c.in-Some.k (c.index_mut.result.now.0, c.args.value) ≡ replaced es n c.args.value =
    ap (λ d. slice_set es c.in-Some.k (d.0, c.args.value)) c.index_mut.ensures.value ∙ set_replaced es n c.in-Some.k c.args.value c.index_mut.result.now e in
    c.self.invariant m ∙ ap (λ ns. place_in ns m) (sym (ap keys_of s ∙ names_replaced es n c.args.value))

pub returns-in-Some : goal.returns-in-Some
returns-in-Some g c =
    let es = c.self.inside.entries.items in
    let n = c.args.name.now in
    let e = sym (c.self.invariant n) ∙ sym c.at_name.ensures ∙ c.in-Some.is in
    ap (λ d. slice_set es c.in-Some.k (d.0, c.args.value)) c.index_mut.ensures.value
    ∙ set_replaced es n c.in-Some.k c.args.value c.index_mut.result.now e ∙ ap (λ xs. replaced xs n c.args.value) c.self.view_is

pub returns-in-None : goal.returns-in-None
returns-in-None g c =
    let es = c.self.inside.entries.items in
    let n = c.args.name.now in
    let e = sym (c.self.invariant n) ∙ sym c.at_name.ensures ∙ c.in-None.is in
    sym c.self.view_is ∙ sym (missing_replaced es n c.args.value e) ∙ ap (λ xs. replaced xs n c.args.value) c.self.view_is
