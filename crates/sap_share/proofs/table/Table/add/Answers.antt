use Rattle.sap_lemmas.proofs.Common.{◌≡◌, ◌++◌, [], ◌∷◌, List, None, Some, length, subst, sym, rules, bytes_eq, keys_of}
use Rattle.std.specs.HashMap as hash
use Rattle.sap_maps.specs.Maps.{Name}
use Rattle.sap_net.specs.NameMaps.{AtPlaces, place_in}
use Rattle.sap_share.specs.NameTables.{of_name}
use Rattle.sap_share.proofs.Growing.{entry_added}
use Rattle.sap_share.proofs.table.Table.add.Goals as goal

pub invariant_of-self-else-is_err : goal.invariant_of-self-else-is_err
invariant_of-self-else-is_err g c =
    let m = c.self.inside.places in
    let es = c.self.inside.entries.items in
    let m' = c.insert.new.self in
    let x = c.args.name.now in
    let more : c.push.new.self.items ≡ es ++ (x, c.args.value) ∷ [] = search rules in
    let place : length es ≡ c.len-place.result = search rules in
    let copy : c.in_ok-key.key ≡ x = search rules in
    let other : place_in (keys_of es) x ≡ None = subst (λ (fs : List (Name × _)). place_in (keys_of fs) x ≡ None) (sym c.self.view_is) c.requires in
    let h : hash.Updates bytes_eq m m' c.in_ok-key.key (Some c.len-place.result) = search rules in
    subst (λ (fs : List (Name × _)). AtPlaces (of_name m') (keys_of fs)) (sym more)
    (entry_added m m' es c.in_ok-key.key x c.args.value c.len-place.result copy other place h c.self.invariant)
