-- What a program says of its entities, as the code reads it.
use Rattle.std.proofs.Common.{◌≡◌, ℕ, ◌<◌, ◌≤◌, length, get_or, map, ap, ◌∙◌, arith}
use Rattle.std.proofs.lemmas.List.{get_or-map, get_or_past, length-map}
use Rattle.sap_meaning.specs.Program.{nothing}
use Rattle.sap_program.specs.declared.program.Entity.{Entity}
use Rattle.sap_program.specs.declared.program.Program.{Program}
use Rattle.sap_program.specs.Views.{entity_of, entity_in}

module _ (p : Program) where
  pub entity_found : (x : ℕ) (e : Entity) → x < length p.entities.items → get_or p.entities.items x e ≡ e → entity_in p x ≡ entity_of e
  entity_found x e l i = get_or-map entity_of p.entities.items x e nothing l ∙ ap entity_of i

  pub entity_past : (x : ℕ) → length p.entities.items ≤ x → entity_in p x ≡ nothing
  entity_past x l = get_or_past (map entity_of p.entities.items) x nothing (let e = length-map p.entities.items entity_of in omega (arith, e, l))

pub ruleset entities = (entity_found, entity_past)
