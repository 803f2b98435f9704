-- On what stands in Rules: what several crates cite.
use Rattle.sap_lemmas.proofs.Common.{List, None, Some, [], arith, inl, inr, map, refl, subst, sym, true, ℕ, ◌++◌, ◌∷◌, ◌≡◌, bytes_eq, cases_Bool, AllByRecursion, all_follow, equal_of_bytes_eq}
use Rattle.sap_maps.proofs.Scopes.{found_behind, found_here, not_behind}
use Rattle.sap_maps.specs.Prelude.{Name, Scope, find}
use Rattle.sap_net.specs.IsNetlist.{names_of}
use Rattle.sap_net.specs.Names.{AreDistinct, is_among}
use Rattle.sap_net.specs.Rules.{AreValues, AreWires, IsWidth, Shapes, readable_after, IsOperand}
use Rattle.sap_net.specs.declared.parts.Input.{Input}
use Rattle.sap_net.specs.declared.parts.Operand.{Operand}
use Rattle.sap_net.specs.declared.parts.Operand.TheVariants.{Named, Constant}
use Rattle.sap_net.specs.declared.parts.Wire.{Wire}

pub values_found : (ms : Shapes) (es : Scope) → AreValues ms es → AllByRecursion (λ e. find es e.0 ≡ Some e.1) es
values_found ms [] a = tt
values_found ms (e ∷ es) a = (
  found_here e.0 e.1 es,
  all_follow (λ f. find es f.0 ≡ Some f.1) (λ f. find (e ∷ es) f.0 ≡ Some f.1) es (λ f h. found_behind es e.0 e.1 a.1 f.0 f.1 h) (values_found ms es a.3),
)

pub values_past : (ms : Shapes) (is : List Input) (sd : Scope) → AreValues ms (map (λ i. (i.name, i.width)) is ++ sd) → AreValues ms sd
values_past ms [] sd rules = rules
values_past ms (i ∷ is) sd rules = values_past ms is sd rules.3

pub wires_both : (ms : Shapes) (ws xs : List Wire) (sc : Scope) → AreWires ms sc ws → AreWires ms (readable_after sc ws) xs → AreWires ms sc (ws ++ xs)
wires_both ms [] xs sc f g = g
wires_both ms (w ∷ ws) xs sc f g = (f.0, f.1, f.2, f.3, wires_both ms ws xs _ f.4 g)

pub one_wide : IsWidth 1
one_wide = (omega arith, omega arith)

pub readable_kept : (ms : Shapes) (ws : List Wire) (sc : Scope) → AreWires ms sc ws → (n : Name) (u : ℕ) → find sc n ≡ Some u → find (readable_after sc ws) n ≡ Some u
readable_kept ms [] sc a n u h = h
readable_kept ms (w ∷ ws) sc a n u h = readable_kept ms ws ((w.name, w.width) ∷ sc) a.4 n u (found_behind sc w.name w.width a.1 n u h)

pub readable_both : (ws xs : List Wire) (sc : Scope) → readable_after sc (ws ++ xs) ≡ readable_after (readable_after sc ws) xs
readable_both [] xs sc = refl
readable_both (w ∷ ws) xs sc = readable_both ws xs ((w.name, w.width) ∷ sc)

-- a scope has what another has
abbrev pub Grows : Scope → Scope → Type 0
Grows sc sd = (n : Name) (u : ℕ) → find sc n ≡ Some u → find sd n ≡ Some u

pub operand_grows : (sc sd : Scope) → Grows sc sd → (u : ℕ) (o : Operand) → IsOperand sc u o → IsOperand sd u o
operand_grows sc sd g u (Named n) h = g n u h
operand_grows sc sd g u (Constant w x) h = h

-- names of wires are new, and each is declared once

pub wires_new : (ms : Shapes) (ws : List Wire) (sc : Scope) → AreWires ms sc ws → (n : Name) → is_among n (names_of ws) ≡ true → (find sc n ≡ None) × (find ms n ≡ None)
wires_new ms [] sc a n h = absurd (cc)
wires_new ms (w ∷ ws) sc a n h =
    elim (cases_Bool (bytes_eq n w.name)) [
      | inl t ↦
          let e : w.name ≡ n = sym (equal_of_bytes_eq n w.name t) in
          (subst (λ (y : Name). find sc y ≡ None) e a.1, subst (λ (y : Name). find ms y ≡ None) e a.2)
      | inr f ↦
          let r = wires_new ms ws ((w.name, w.width) ∷ sc) a.4 n (rw f at h) in
          (not_behind (w.name, w.width) sc n r.0, r.1)
    ]

pub wires_distinct : (ms : Shapes) (ws : List Wire) (sc : Scope) → AreWires ms sc ws → AreDistinct (names_of ws)
wires_distinct ms [] sc a = tt
wires_distinct ms (w ∷ ws) sc a = (
  elim (cases_Bool (is_among w.name (names_of ws))) [
    | inl t ↦ absurd (let e = wires_new ms ws ((w.name, w.width) ∷ sc) a.4 w.name t in
        let g : find ((w.name, w.width) ∷ sc) w.name ≡ Some w.width = found_here w.name w.width sc in let q = e.0 in cc)
    | inr f ↦ f
  ],
  wires_distinct ms ws ((w.name, w.width) ∷ sc) a.4,
)
