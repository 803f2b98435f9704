use Rattle.sap_lemmas.proofs.Common.{◌≡◌, ◌∷◌, List, true, slice_set, subst, rules, bytes_eq}
use Rattle.std.specs.HashSet as bag
use Rattle.sap_maps.specs.Maps.{Name}
use Rattle.sap_share.specs.Fronts.{front, is_marked}
use Rattle.sap_share.specs.Sets.{AreSame}
use Rattle.sap_share.proofs.Held.{one_more}
use Rattle.sap_share.proofs.Fronts as fronts
use Rattle.sap_share.proofs.name_set.NameSet.add.Goals as goal

pub invariant_of-self-2 : goal.invariant_of-self-2
invariant_of-self-2 c =
    let old = c.self.inside.names in
    let new = c.insert.new.self in
    let x = c.args.name.now in
    let e : c.in_ok-key.key ≡ x = search rules in
    let h = subst (λ (k : Name). bag.Updates bytes_eq old new k true) e c.in_ok-insert.ensures.updates in
    let s = subst (λ (y : Name). c.mark.new.fronts ≡ slice_set c.self.inside.fronts (front y) true) c.as_bytes.ensures c.mark.ensures.set in
    let m = subst (λ (y : Name). is_marked c.mark.new.fronts (front y) ≡ true) c.as_bytes.ensures c.mark.ensures.marked in
    fronts.one_more c.self.inside.fronts c.mark.new.fronts x old.keys new.keys s m (one_more x old new h) c.self.invariant

pub returns : goal.returns
returns c =
    let old = c.self.inside.names in
    let new = c.insert.new.self in
    let x = c.args.name.now in
    let e : c.in_ok-key.key ≡ x = search rules in
    let h = subst (λ (k : Name). bag.Updates bytes_eq old new k true) e c.in_ok-insert.ensures.updates in
    subst (λ (before : List Name). AreSame new.keys (x ∷ before)) c.self.view_is (one_more x old new h)
