use Rattle.std.proofs.Common.{◌≡◌, ◌∷◌, [], ◌∙◌, ◌++◌, take, map, subst, rules}
use Rattle.sap_maps.specs.Maps.{Name}
use Rattle.sap_cycle.specs.Running.{IsPlaceOf}
use Rattle.sap_sim.proofs.Lists.{mapped_more}
use Rattle.sap_sim.proofs.Seen.{places_more}
use Rattle.sap_sim.proofs.shown.register_places.Goals as goal

pub loop-name-preserved : goal.loop-name-preserved
loop-name-preserved c =
    let n = c.args.runner.now.net in
    let k = c.loop-name.name-index in
    let x = c.name-item.result in
    let full = c.args.letter ∷ (95 ∷ c.name-item.result) in
    let r : c.in_ok-register.register.items ≡ c.args.letter ∷ (95 ∷ c.name-item.result) = search rules in
    let d : c.deref.result.now ≡ c.args.letter ∷ (95 ∷ c.name-item.result) = c.deref.ensures.value ∙ r in
    let p : IsPlaceOf c.args.runner.now.net (c.args.letter ∷ (95 ∷ c.name-item.result)) c.place.result =
    subst (λ (y : Name). IsPlaceOf c.args.runner.now.net y c.place.result) d c.place.ensures in
    let m = places_more n (map (λ (x : Name). c.args.letter ∷ (95 ∷ x)) (take k c.args.names.now)) c.loop-name.places.items full c.place.result c.loop-name.invariant p in
    let e = mapped_more (λ (x : Name). c.args.letter ∷ (95 ∷ x)) c.args.names.now k x c.loop-name-test.true c.name-item.is in
    let f : c.push.new.self.items ≡ c.loop-name.places.items ++ c.place.result ∷ [] = c.in_ok-push.ensures.items in
    rw (e, f) m
