-- What names stand for where some facts hold.
use Rattle.sap_lemmas.proofs.Common.{◌≡◌, List, [], ◌∷◌, bytes_eq, refl, inl, inr, cases_Bool}
use Rattle.sap_maps.specs.Prelude.{Name}
use Rattle.sap_net.specs.declared.parts.Wire.{Wire}
use Rattle.sap_lower.specs.declared.facts.Fact.{Fact}
use Rattle.sap_lower.specs.declared.parts.Part.{Part}
use Rattle.sap_lower.specs.Lowering.{present}
use Rattle.sap_lower.specs.Reads.{entries_seen, seen_part}

pub present_seen : (ws : List Wire) (fs : List Fact) (es : List (Name × Part)) (x : Name) → present (entries_seen ws fs es) x ≡ seen_part ws fs (present es x)
present_seen ws fs [] x = refl
present_seen ws fs (e ∷ es) x = elim (cases_Bool (bytes_eq e.0 x)) [ inl t ↦ rw t refl | inr f ↦ rw f (present_seen ws fs es x) ]
