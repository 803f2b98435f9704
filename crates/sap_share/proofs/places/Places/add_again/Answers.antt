use Rattle.std.proofs.Common.{◌≡◌, ◌++◌, [], ◌∷◌, List, true, sym, subst, rules}
use Rattle.sap_maps.specs.Maps.{Name}
use Rattle.sap_net.specs.Prelude.{is_among, AtPlaces}
use Rattle.sap_share.specs.NameTables.{of_name}
use Rattle.sap_share.proofs.Growing.{added_again}
use Rattle.sap_share.proofs.places.Places.add_again.Goals as goal

pub invariant_of-self-2 : goal.invariant_of-self-2
invariant_of-self-2 c =
    let m = c.self.inside.places in
    let names = c.self.inside.names.items in
    let x = c.args.name in
    let more : c.push.new.self.items ≡ names ++ x ∷ [] = search rules in
    let there : is_among x names ≡ true = subst (λ (xs : List Name). is_among x xs ≡ true) (sym c.self.view_is) c.requires in
    subst (AtPlaces (of_name m)) (sym more) (added_again m names x there c.self.invariant)
