-- A name that is given what it stands for.
use Rattle.sap_lemmas.proofs.Common.{◌≡◌, List, [], ◌∷◌, sym, ap, refl, inl, inr, bytes_eq, cases_Bool}
use Rattle.sap_maps.specs.Prelude.{Name}
use Rattle.sap_share.specs.Tables.{replaced}
use Rattle.sap_lower.specs.declared.lowering.Lowering.{Lowering}
use Rattle.sap_lower.specs.declared.parts.Part.{Part}
use Rattle.sap_lower.specs.Commands.{assigned}
use Rattle.sap_lower.specs.Lowering.{present}

replaced_itself : (es : List (Name × Part)) (n : Name) → replaced es n (present es n) ≡ es
replaced_itself [] n = refl
replaced_itself (e ∷ es) n =
    elim (cases_Bool (bytes_eq e.0 n)) [
      | inl t ↦ rw t refl
      | inr f ↦ rw f (ap (λ (fs : List (Name × Part)). e ∷ fs) (replaced_itself es n))
    ]

pub kept_itself : (l : Lowering) (n : Name) → l ≡ assigned l n (record { wires = l.wires; part = present l.entries n })
kept_itself l n =
    let made : List (Name × Part) → Lowering = λ es. record { wires = l.wires; entries = es; ports = l.ports } in
    ap made (sym (replaced_itself l.entries n))
