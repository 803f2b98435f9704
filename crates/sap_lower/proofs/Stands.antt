-- After the assignments each name's operand has its value.
use Rattle.sap_lemmas.proofs.Common.{◌≡◌, ℕ, ◌==◌, List, [], ◌∷◌, Some, Bool, true, false, sym, ap, ◌∙◌, subst, refl, inl, inr, if◌then◌else◌, unwrap_or, bytes_eq, cases_Bool, bytes_eq_apart_back, bytes_eq_same, equal_of_bytes_eq}
use Rattle.sap_maps.specs.Prelude.{Name, Valuation, set_value, Scope, find, Term}
use Rattle.sap_net.specs.Rules.{Shapes}
use Rattle.sap_net.specs.Values.{operand_value}
use Rattle.sap_net.specs.declared.parts.Operand.{Operand}
use Rattle.sap_fold.specs.Folding.{same_operand}
use Rattle.sap_fold.proofs.Folds.{same_is}
use Rattle.sap_net.specs.declared.parts.Right.TheVariants.{Choose}
use Rattle.sap_ir.specs.Prelude.{Going, value_in, TermFine}
use Rattle.sap_lower.specs.declared.parts.Part.{Part}
use Rattle.sap_lower.specs.Lowering.{nothing, present, Low, low}
use Rattle.sap_share.specs.Tables.{replaced}
use Rattle.sap_lower.specs.declared.lowering.Lowering.{Lowering}
use Rattle.sap_lower.specs.Commands.{chosen_unless, entries_plain, entries_under, low_set}
use Rattle.sap_lower.proofs.Shared.{Gives}
use Rattle.sap_lower.proofs.Means.{Stands, Env, Around, plus_front, plus_shows, low_front, low_stands}
use Rattle.sap_lower.proofs.Under.{around_plain, around_under}

-- entries

pub replaced_same : {X : Type 0} (es : List (Name × X)) (n : Name) (x y : X) → find es n ≡ Some y → find (replaced es n x) n ≡ Some x
replaced_same [] n x y h = absurd (cc)
replaced_same (e ∷ es) n x y h =
    elim (cases_Bool (bytes_eq e.0 n)) [ inl t ↦ rw (t, t) refl | inr f ↦ rw (f, f) (replaced_same es n x y (rw f at h)) ]

pub replaced_other : {X : Type 0} (es : List (Name × X)) (n m : Name) (x : X) → bytes_eq n m ≡ false → find (replaced es n x) m ≡ find es m
replaced_other [] n m x d = refl
replaced_other (e ∷ es) n m x d =
    elim (cases_Bool (bytes_eq e.0 n)) [
      | inl t ↦ let k : bytes_eq e.0 m ≡ false = subst (λ (a : Name). bytes_eq a m ≡ false) (sym (equal_of_bytes_eq e.0 n t)) d in rw (t, k) refl
      | inr f ↦ rw f (ap (λ o. if bytes_eq e.0 m then Some e.1 else o) (replaced_other es n m x d))
    ]

-- each name of some has an entry
abbrev pub HasEntries : {X Y : Type 0} → List (Name × Y) → List (Name × X) → Type 0
HasEntries {X} {Y} vars es = (n : Name) (u : Y) → find vars n ≡ Some u → (x : X) × (find es n ≡ Some x)

pub replaced_has : {X Y : Type 0} (vars : List (Name × Y)) (es : List (Name × X)) (n : Name) (x : X) → HasEntries vars es → HasEntries vars (replaced es n x)
replaced_has vars es n x h m u f =
    let g = h m u f in
    elim (cases_Bool (bytes_eq n m)) [
      | inl t ↦
          let e : n ≡ m = equal_of_bytes_eq n m t in
          let q : find es n ≡ Some g.0 = subst (λ (a : Name). find es a ≡ Some g.0) (sym e) g.1 in
          (x, subst (λ (a : Name). find (replaced es n x) a ≡ Some x) e (replaced_same es n x g.0 q))
      | inr d ↦ (g.0, replaced_other es n m x d ∙ g.1)
    ]

-- the number of a name after one assignment under a condition

set_at_other : (b : Bool) (g : Going) (n m : Name) (a : ℕ) → bytes_eq m n ≡ false
    → (if b then g else record { now = set_value g.now n a; next = g.next }).now.value m ≡ g.now.value m
set_at_other true g n m a d = refl
set_at_other false g n m a d = rw d

set_at_same : (b : Bool) (g : Going) (n : Name) (a : ℕ) → (if b then g else record { now = set_value g.now n a; next = g.next }).now.value n ≡ (if b then g.now.value n else a)
set_at_same true g n a = refl
set_at_same false g n a = rw (bytes_eq_same n) refl

-- one assignment: what the name stands for, and the others as before

module _ (ms : Shapes) (vars : Scope) (vw widths : Name → ℕ) (v : Valuation) (s : Lowering) (g : Going)
    (k : Around ms vars vw widths v s.entries g.now.value g.now.cell) (c : Term Name) (n : Name) (t : Term Name) (u : ℕ)
    (found : find vars n ≡ Some u) (fc : TermFine ms vars 1 c) (ft : TermFine ms vars u t) where
  abbrev plain : List (Name × Part)
  plain = entries_plain s.entries

  abbrev gate : Low
  gate = low ms plain c s.wires

  abbrev seen : List (Name × Part)
  seen = entries_under gate s.entries

  abbrev value : Low
  value = low ms seen t gate.wires

  -- the condition has its value where the wires do
  gate_stands : Gives widths v gate.wires → Stands widths v gate.part 1 (value_in vw g c)
  gate_stands h =
      let kp = around_plain ms vars vw widths v s.entries g.now.value g.now.cell k in
      low_stands ms vars vw widths v plain g.now.value g.now.cell kp 1 c fc s.wires h

  around_gate : Gives widths v gate.wires → (value_in vw g c == 0) ≡ false → Around ms vars vw widths v seen g.now.value g.now.cell
  around_gate h on = around_under ms vars vw widths v s.entries g.now.value g.now.cell k gate h (value_in vw g c) (gate_stands h).shows.value on

  unless_here : (kept : Bool) → same_operand value.part.operand (present seen n).operand ≡ kept
      → Gives widths v (chosen_unless kept s.entries n gate.part.operand value.part.operand value.wires).wires
      → Stands widths v (chosen_unless kept s.entries n gate.part.operand value.part.operand value.wires).part u (if value_in vw g c == 0 then g.now.value n else value_in vw g t)
  unless_here true e h =
      let hz = low_front widths v ms seen t gate.wires h in
      let so = k.env n u found in
      elim (cases_Bool (value_in vw g c == 0)) [
        | inl off ↦ rw off so
        | inr on ↦
            let ku = around_gate hz on in
            let sx = low_stands ms vars vw widths v seen g.now.value g.now.cell ku u t ft gate.wires h in
            let there = ku.env n u found in
            let same : value.part.operand ≡ (present seen n).operand = same_is value.part.operand (present seen n).operand e in
            let kept : g.now.value n ≡ value_in vw g t = sym there.shows.value ∙ sym (ap (λ (o : Operand). operand_value v o) same) ∙ sx.shows.value in
            rw on (subst (λ (m : ℕ). Stands widths v (present s.entries n) u m) kept so)
      ]
  unless_here false e h =
      let old = present s.entries n in
      let hx = plus_front widths v value.wires old.width (Choose gate.part.operand value.part.operand old.operand) h in
      let hz = low_front widths v ms seen t gate.wires hx in
      let so = k.env n u found in
      let p = plus_shows widths v value.wires old.width (Choose gate.part.operand value.part.operand old.operand) h in
      let e1 = (gate_stands hz).shows.value in
      let e3 = so.shows.value in
      elim (cases_Bool (value_in vw g c == 0)) [
        | inl off ↦
            rw off (record {
              shows = record { value = p.value ∙ rw (e1, off) e3; wide = p.wide ∙ so.shows.width; width = p.width ∙ so.shows.width };
              below = so.below;
            })
        | inr on ↦
            let sx = low_stands ms vars vw widths v seen g.now.value g.now.cell (around_gate hz on) u t ft gate.wires hx in
            rw on (record {
              shows = record { value = p.value ∙ rw (e1, on) sx.shows.value; wide = p.wide ∙ so.shows.width; width = p.width ∙ so.shows.width };
              below = sx.below;
            })
      ]

  set_here : Gives widths v (low_set ms s c n t).wires → Stands widths v (low_set ms s c n t).part u (if value_in vw g c == 0 then g.now.value n else value_in vw g t)
  set_here h = unless_here (same_operand value.part.operand (present seen n).operand) refl h

pub set_stands : (ms : Shapes) (vars : Scope) (vw widths : Name → ℕ) (v : Valuation) (s : Lowering) (g : Going)
    → Around ms vars vw widths v s.entries g.now.value g.now.cell → HasEntries vars s.entries
    → (c : Term Name) (n : Name) (t : Term Name) (u : ℕ) → find vars n ≡ Some u → TermFine ms vars 1 c → TermFine ms vars u t → Gives widths v (low_set ms s c n t).wires
    → Env widths v vars (replaced s.entries n (low_set ms s c n t).part) (if value_in vw g c == 0 then g else record {
      now =
          set_value g.now n (value_in vw g t);
      next = g.next;
    }).now.value
set_stands ms vars vw widths v s g k has c n t u found fc ft h m w f =
    let b = value_in vw g c == 0 in
    let a = value_in vw g t in
    let y = (low_set ms s c n t).part in
    let after : Going = if b then g else record { now = set_value g.now n a; next = g.next } in
    elim (cases_Bool (bytes_eq n m)) [
      | inl same ↦
          let e : n ≡ m = equal_of_bytes_eq n m same in
          let found' : find vars n ≡ Some w = subst (λ (q : Name). find vars q ≡ Some w) (sym e) f in
          let uw : u ≡ w = cc in
          let old = has n u found in
          let here = set_here ms vars vw widths v s g k c n t u found fc ft h in
          let r : present (replaced s.entries n y) n ≡ y = ap (λ o. unwrap_or o nothing) (replaced_same s.entries n y old.0 old.1) in
          let there : Stands widths v (present (replaced s.entries n y) n) u (after.now.value n) = rw (r, set_at_same b g n a) here in
          subst (λ (q : Name). Stands widths v (present (replaced s.entries n y) q) w (after.now.value q)) e
          (subst (λ (q : ℕ). Stands widths v (present (replaced s.entries n y) n) q (after.now.value n)) uw there)
      | inr d ↦
          let o = k.env m w f in
          let r : present (replaced s.entries n y) m ≡ present s.entries m = ap (λ o. unwrap_or o nothing) (replaced_other s.entries n m y d) in
          let d' : bytes_eq m n ≡ false = bytes_eq_apart_back n m d in
          rw (r, set_at_other b g n m a d') o
    ]
