-- On what stands in Input: what several crates cite.
use Rattle.std.proofs.Common.{List, None, [], map, ◌++◌, ◌∷◌, ◌≡◌}
use Rattle.sap_maps.proofs.Scopes.{not_behind}
use Rattle.sap_maps.specs.Prelude.{Name, Scope, find}
use Rattle.sap_net.specs.declared.parts.Input.{Input}

pub past_inputs : (is : List Input) (sd : Scope) (x : Name) → find (map (λ i. (i.name, i.width)) is ++ sd) x ≡ None → find sd x ≡ None
past_inputs [] sd x h = h
past_inputs (i ∷ is) sd x h = past_inputs is sd x (not_behind (i.name, i.width) _ x h)
