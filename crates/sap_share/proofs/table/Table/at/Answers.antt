use Rattle.sap_lemmas.proofs.Common.{◌≡◌, ◌<◌, ◌∙◌, Some, List, sym, ap, subst, length, arith, keys_of}
use Rattle.sap_maps.specs.Prelude.{Name, find}
use Rattle.sap_net.specs.NameMaps.{place_in}
use Rattle.sap_share.proofs.Lookups.{entry_found}
use Rattle.sap_share.proofs.table.Table.at.Goals as goal

pub index-requires : goal.index-requires
index-requires g c =
    let es = c.self.inside.entries.items in
    let n = c.requires.0 in
    let p = subst (λ (xs : List (Name × _)). place_in (keys_of xs) n ≡ Some c.args.place) (sym c.self.view_is) c.requires.1 in
    let l : c.args.place < length es = (entry_found es n c.args.place p).0 in
    let len = c.self.inside.entries.ok.0 in
    omega (arith, len, l)

pub returns : goal.returns
returns g c n p =
    let es = c.self.inside.entries.items in
    let q = subst (λ (xs : List (Name × _)). place_in (keys_of xs) n ≡ Some c.args.place) (sym c.self.view_is) p in
    let f = (entry_found es n c.args.place q).1 c.index.result.now in
    ap (λ xs. find xs n) (sym c.self.view_is) ∙ f ∙ sym (ap (λ x. Some (x.1)) c.index.ensures)
