-- An operand that is seen in place of another fits where that does.
use Rattle.sap_lemmas.proofs.Common.{◌≡◌, ℕ, zero, suc, List, [], ◌∷◌, Option, Some, None, drop, slice_get, sym, subst, refl, inl, inr, bytes_eq, equal_of_bytes_eq, cases_Bool}
use Rattle.sap_text.specs.Runs.{number_of}
use Rattle.sap_maps.specs.Prelude.{Name, Scope, find}
use Rattle.sap_maps.proofs.Scopes.{found_here, found_behind}
use Rattle.sap_net.specs.Prelude.{Shapes, IsOperand, IsRight, AreWires, readable_after, WidthsAre}
use Rattle.sap_net.specs.declared.parts.Operand.{Operand}
use Rattle.sap_net.specs.declared.parts.Operand.TheVariants.{Named, Constant}
use Rattle.sap_net.specs.declared.parts.Right.{Right}
use Rattle.sap_net.specs.declared.parts.Right.TheVariants.{Choose}
use Rattle.sap_net.specs.declared.parts.Wire.{Wire}
use Rattle.sap_net.proofs.Within.{operand_is_wide}
use Rattle.sap_net.proofs.RulesLemmas.{operand_grows, readable_kept}
use Rattle.sap_lower.specs.declared.facts.Fact.{Fact}
use Rattle.sap_lower.specs.declared.parts.Part.{Part}
use Rattle.sap_lower.specs.Facts.{right_if_named, right_numbered, right_of, gates}
use Rattle.sap_lower.specs.Lowering.{present}
use Rattle.sap_lower.specs.Reads.{opened, excluded, chosen_part, seen_through, choices, entries_seen}
use Rattle.sap_lower.proofs.Entries.{present_seen}
use Rattle.sap_lower.proofs.Fits.{EnvFits}
use Rattle.sap_lower.proofs.Shared.{PartsWide}

-- both parts of a choice are operands of this width
abbrev pub PartsFit : Scope → (width : ℕ) → Right → Type 0
PartsFit sc u (Choose c a b) = IsOperand sc u a × IsOperand sc u b
PartsFit sc u _ = Unit {0}

-- what a wire's right side says of its name
record ToldFits (sc : Scope) (n : Name) (r : Right) : Type 0 where
  width : ℕ
  found : find sc n ≡ Some width
  parts : PartsFit sc width r

pub right_parts : (ms : Shapes) (sc sd : Scope) → ((m : Name) (k : ℕ) → find sc m ≡ Some k → find sd m ≡ Some k) → (u : ℕ) (r : Right) → IsRight ms sc u r → PartsFit sd u r
right_parts ms sc sd g u (Choose c a b) h = (operand_grows sc sd g u a h.1, operand_grows sc sd g u b h.2)
right_parts ms sc sd g u _ h = tt

pub parts_wide : (sc : Scope) (widths : Name → ℕ) → WidthsAre sc widths → (u : ℕ) (r : Right) → PartsFit sc u r → PartsWide widths u r
parts_wide sc widths w u (Choose c a b) h = (operand_is_wide sc widths w u a h.0, operand_is_wide sc widths w u b h.1)
parts_wide sc widths w u _ h = tt

at_fits : (ms : Shapes) (ws : List Wire) (sc : Scope) → AreWires ms sc ws → (k : ℕ) (w : Wire) → slice_get ws k ≡ Some w → ToldFits (readable_after sc ws) w.name w.right
at_fits ms [] sc f k w e = absurd (cc)
at_fits ms (x ∷ ws) sc f zero w e =
    let s : x ≡ w = cc in
    let sd = readable_after sc (x ∷ ws) in
    let kept : (m : Name) (j : ℕ) → find sc m ≡ Some j → find sd m ≡ Some j =
    λ m j h. readable_kept ms ws ((x.name, x.width) ∷ sc) f.4 m j (found_behind sc x.name x.width f.1 m j h) in
    subst (λ (y : Wire). ToldFits sd y.name y.right) s
    (record {
      width = x.width;
      found = readable_kept ms ws ((x.name, x.width) ∷ sc) f.4 x.name x.width (found_here x.name x.width sc);
      parts = right_parts ms sc sd kept x.width x.right f.3;
    })
at_fits ms (x ∷ ws) sc f (suc k) w e = at_fits ms ws ((x.name, x.width) ∷ sc) f.4 k w e

named_fits : (sc : Scope) (n : Name) (r : Right) (o : Option Wire) → ((w : Wire) → o ≡ Some w → ToldFits sc w.name w.right) → right_if_named n o ≡ Some r → ToldFits sc n r
named_fits sc n r None f e = absurd (cc)
named_fits sc n r (Some w) f e =
    elim (cases_Bool (bytes_eq w.name n)) [
      | inl t ↦
          let g : Some w.right ≡ Some r = rw t at e in
          let s : w.right ≡ r = cc in
          subst (λ (q : Right). ToldFits sc n q) s (subst (λ (m : Name). ToldFits sc m w.right) (equal_of_bytes_eq w.name n t) (f w refl))
      | inr d ↦ absurd (let g : None ≡ Some r = rw d at e in cc)
    ]

module _ (ms : Shapes) (sc : Scope) (ws : List Wire) (wires : AreWires ms sc ws) where
  numbered_fits : (n : Name) (r : Right) (k : Option ℕ) → right_numbered ws n k ≡ Some r → ToldFits (readable_after sc ws) n r
  numbered_fits n r None e = absurd (cc)
  numbered_fits n r (Some k) e = named_fits (readable_after sc ws) n r (slice_get ws k) (λ w h. at_fits ms ws sc wires k w h) e

  right_fits : (n : Name) (r : Right) → right_of ws n ≡ Some r → ToldFits (readable_after sc ws) n r
  right_fits n r e = numbered_fits n r (number_of 10 (drop 1 n)) e

  part_fits : (fs : List Fact) (u : ℕ) (again : Operand → Operand) → ((o : Operand) → IsOperand (readable_after sc ws) u o → IsOperand (readable_after sc ws) u (again o))
      → (n : Name) (o : Option Right) → right_of ws n ≡ o → IsOperand (readable_after sc ws) u (Named n) → IsOperand (readable_after sc ws) u (chosen_part ws fs again (Named n) o)
  part_fits fs u again fits n (Some (Choose c a b)) e h =
      let told = right_fits n (Choose c a b) e in
      let found : find (readable_after sc ws) n ≡ Some told.width = told.found in
      let same : told.width ≡ u = cc in
      let parts = subst (λ (k : ℕ). PartsFit (readable_after sc ws) k (Choose c a b)) same told.parts in
      elim (cases_Bool (opened gates ws fs c)) [
        | inl t ↦ rw t (fits a parts.0)
        | inr f ↦ elim (cases_Bool (excluded gates ws fs c)) [ inl t ↦ rw (f, t) (fits b parts.1) | inr d ↦ rw (f, d) h ]
      ]
  part_fits fs u again fits n _ e h = h

  through_fits : (fs : List Fact) (u : ℕ) (k : ℕ) (o : Operand) → IsOperand (readable_after sc ws) u o → IsOperand (readable_after sc ws) u (seen_through k ws fs o)
  through_fits fs u zero o h = h
  through_fits fs u (suc k) (Named n) h = part_fits fs u (seen_through k ws fs) (λ o g. through_fits fs u k o g) n (right_of ws n) refl h
  through_fits fs u (suc k) (Constant w x) h = h

  pub env_seen_fits : (fs : List Fact) (vars : Scope) (es : List (Name × Part)) → EnvFits (readable_after sc ws) vars es → EnvFits (readable_after sc ws) vars (entries_seen ws fs es)
  env_seen_fits fs vars es env n u h =
      let p = present_seen ws fs es n in
      let old = env n u h in
      subst (λ (q : Part). IsOperand (readable_after sc ws) u q.operand × (q.width ≡ u)) (sym p)
      (through_fits fs u choices (present es n).operand old.0, old.1)
