use Rattle.sap_lemmas.proofs.Common.{◌≡◌, ◌++◌, [], ◌∷◌, List, Some, false, length, sym, subst, rules, bytes_eq}
use Rattle.std.specs.HashMap as hash
use Rattle.sap_maps.specs.Maps.{Name}
use Rattle.sap_net.specs.Prelude.{is_among, AtPlaces}
use Rattle.sap_share.specs.NameTables.{of_name}
use Rattle.sap_share.proofs.Growing.{added}
use Rattle.sap_share.proofs.places.Places.add_new.Goals as goal

pub invariant_of-self-else-is_err : goal.invariant_of-self-else-is_err
invariant_of-self-else-is_err c =
    let m = c.self.inside.places in
    let names = c.self.inside.names.items in
    let m' = c.insert.new.self in
    let x = c.args.name in
    let more : c.push.new.self.items ≡ names ++ x ∷ [] = search rules in
    let place : length names ≡ c.len-place.result = search rules in
    let other : is_among x names ≡ false = subst (λ (xs : List Name). is_among x xs ≡ false) (sym c.self.view_is) c.requires.other in
    let h : hash.Updates bytes_eq m m' c.args.key (Some c.len-place.result) = search rules in
    subst (AtPlaces (of_name m')) (sym more) (added m m' names c.args.key x c.len-place.result c.requires.copy other place h c.self.invariant)
