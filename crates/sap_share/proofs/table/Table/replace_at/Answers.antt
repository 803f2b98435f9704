use Rattle.sap_lemmas.proofs.Common.{◌≡◌, ◌<◌, ◌∙◌, Some, List, sym, ap, subst, length, arith, slice_set, keys_of}
use Rattle.sap_maps.specs.Maps.{Name}
use Rattle.sap_net.specs.NameMaps.{place_in}
use Rattle.sap_share.specs.Tables.{replaced}
use Rattle.sap_share.proofs.Lookups.{entry_found, names_set, set_replaced}
use Rattle.sap_share.proofs.table.Table.replace_at.Goals as goal

pub index_mut-requires : goal.index_mut-requires
index_mut-requires g c =
    let es = c.self.inside.entries.items in
    let n = c.requires.0 in
    let p = subst (λ (xs : List (Name × _)). place_in (keys_of xs) n ≡ Some c.args.place) (sym c.self.view_is) c.requires.1 in
    let l : c.args.place < length es = (entry_found es n c.args.place p).0 in
    let len = c.self.inside.entries.ok.0 in
    omega (arith, len, l)

pub invariant_of-self : goal.invariant_of-self
invariant_of-self g c = λ m.
    let es = c.self.inside.entries.items in
    let k = c.args.place in
    let x = c.args.value in
    let s = ap (λ d. keys_of (slice_set es k (d.0, x))) c.index_mut.ensures.value ∙ names_set es k x c.index_mut.result.now in
    c.self.invariant m ∙ ap (λ ns. place_in ns m) (sym s)

pub returns : goal.returns
returns g c n p =
    let es = c.self.inside.entries.items in
    let k = c.args.place in
    let x = c.args.value in
    let q = subst (λ (xs : List (Name × _)). place_in (keys_of xs) n ≡ Some k) (sym c.self.view_is) p in
    ap (λ d. slice_set es k (d.0, x)) c.index_mut.ensures.value ∙ set_replaced es n k x c.index_mut.result.now q ∙ ap (λ xs. replaced xs n x) c.self.view_is
