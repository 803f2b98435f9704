use Rattle.std.proofs.Common.{◌∷◌, take, map}
use Rattle.sap_sim.specs.Layout.{ArePlaces}
use Rattle.sap_sim.proofs.shown.register_places.Given as goal

abbrev pub invariant-loop-name : goal.invariant-loop-name
invariant-loop-name l = ArePlaces l.runner.net (map (λ x. l.letter ∷ (95 ∷ x)) (take l.name-index l.names)) l.places.items
