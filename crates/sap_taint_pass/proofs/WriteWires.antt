-- The wires of what memories' tags take read what is there, and have that.
use Rattle.sap_lemmas.proofs.Common.{◌≡◌, ◌<◌, ◌≤◌, ℕ, ◌+◌, suc, List, [], ◌∷◌, Some, None, ap, ap₂, sym, ◌∙◌, refl, arith, bit_or, ◌==◌, if◌then◌else◌, or_zero_r, or_zero_l, AllByRecursion, pow_pos}
use Rattle.sap_maps.specs.Prelude.{Name, Valuation, Scope, find}
use Rattle.sap_maps.proofs.Scopes.{found_here, found_behind}
use Rattle.sap_net.specs.Prelude.{Shapes, IsWidth, IsOperand, IsRight, AreWires, IsMemory, names_of, operand_value, right_value, Holds}
use Rattle.sap_net.specs.declared.parts.Operand.{Operand}
use Rattle.sap_net.specs.declared.parts.Operand.TheVariants.{Named, Constant}
use Rattle.sap_net.specs.declared.parts.Memory.{Memory}
use Rattle.sap_net.proofs.RulesLemmas.{Grows, operand_grows}
use Rattle.sap_net.proofs.Same.{AreFound}
use Rattle.sap_taint.specs.TagNames.{name_of_tag}
use Rattle.sap_taint.specs.Tags.{operand_tag, written_tag}
use Rattle.sap_taint_pass.specs.Tainted.{tag_operand, joint, write_wires, help_for_writes, memory_tags}
use Rattle.sap_taint_pass.proofs.Numbered.{AreApart, some_names, apart_names}
use Rattle.sap_taint_pass.proofs.JoinWires.{HelpingNew, NoMemory, help_used, tags_in}
use Rattle.sap_taint_pass.proofs.TagWires.{Tagged, AreWide}

-- a name is there, with its tag
abbrev pub IsTagged : (w : ℕ) → Scope → Operand → Type 0
IsTagged w sm (Named x) = find sm (name_of_tag x) ≡ Some w
IsTagged w sm (Constant u n) = Unit {0}

-- what is there for writes: all of the netlist without tags, with its tags
pub record Stocked (w : ℕ) (ms : Shapes) (sn sm : Scope) : Type 0 where
  pub numbers : Grows sn sm
  pub tags : Tagged w ms sn sm

pub stocked_more : (w : ℕ) (ms : Shapes) (sn sm : Scope) (x : Name) (u : ℕ) → find sm x ≡ None → Stocked w ms sn sm → Stocked w ms sn ((x, u) ∷ sm)
stocked_more w ms sn sm x u fresh a =
    record {
      numbers = λ y v h. found_behind sm x u fresh y v (a.numbers y v h);
      tags = record {
        value = λ y v h. found_behind sm x u fresh (name_of_tag y) w (a.tags.value y v h);
        memory = λ y s h. found_behind sm x u fresh (name_of_tag y) w (a.tags.memory y s h);
      };
    }

pub operand_tagged : (w : ℕ) (ms : Shapes) (sn sm : Scope) → Tagged w ms sn sm → (u : ℕ) (o : Operand) → IsOperand sn u o → IsTagged w sm o
operand_tagged w ms sn sm a u (Named x) h = a.value x u h
operand_tagged w ms sn sm a u (Constant v n) h = tt

pub tag_fits : (w : ℕ) (sm : Scope) (o : Operand) → IsTagged w sm o → IsOperand sm w (tag_operand w o)
tag_fits w sm (Named x) h = h
tag_fits w sm (Constant u n) h = (refl, pow_pos w)

joint_fits : (w : ℕ) → IsWidth w → (ms : Shapes) (sm : Scope) (a b : Operand) → IsTagged w sm a → IsTagged w sm b → IsRight ms sm w (joint w a b)
joint_fits w wide ms sm (Named x) (Named y) g h = (w, w, wide, wide, g, h, refl, refl)
joint_fits w wide ms sm (Named x) (Constant u n) g h = g
joint_fits w wide ms sm (Constant u n) b g h = tag_fits w sm b h

joint_value : (w : ℕ) (widths : Name → ℕ) (v : Valuation) (a b : Operand) → right_value widths v (joint w a b) ≡ bit_or (operand_tag (tags_in v) a) (operand_tag (tags_in v) b)
joint_value w widths v (Named x) (Named y) = refl
joint_value w widths v (Named x) (Constant u n) = sym (or_zero_r (v.value (name_of_tag x)))
joint_value w widths v (Constant u n) (Named y) = sym (or_zero_l (v.value (name_of_tag y)))
joint_value w widths v (Constant u n) (Constant k m) = sym (or_zero_l 0)

pub write_wires_fit : (helping : ℕ → Name) → AreApart helping → (w : ℕ) → IsWidth w → (ms : Shapes) → NoMemory helping ms
    → (sn sm : Scope) (k : ℕ) → Stocked w ms sn sm → HelpingNew helping sm k
    → (mems : List Memory) → AllByRecursion (IsMemory sn) mems → AreFound ms mems → AreWires ms sm (write_wires helping w k mems)
write_wires_fit helping one w wide ms none sn sm k a new [] rules found = tt
write_wires_fit helping one w wide ms none sn sm k a new (m ∷ mems) rules found =
    let m0 = rules.0 in
    let own : find sm (name_of_tag m.name) ≡ Some w = a.tags.memory m.name (m.width, m.depth) found.0 in
    let n0 = new k (omega arith) in
    let s1 : Scope = (helping k, w) ∷ sm in
    let a1 = stocked_more w ms sn sm (helping k) w n0 a in
    let new1 = help_used helping one sm k w new in
    let n1 = new1 (k + 1) (omega arith) in
    let s2 : Scope = (helping (k + 1), w) ∷ s1 in
    let a2 = stocked_more w ms sn s1 (helping (k + 1)) w n1 a1 in
    let new2 = help_used helping one s1 (k + 1) w new1 in
    let n2 = new2 (k + 2) (omega arith) in
    let s3 : Scope = (helping (k + 2), w) ∷ s2 in
    let a3 = stocked_more w ms sn s2 (helping (k + 2)) w n2 a2 in
    let new3 = λ (i : ℕ) (h : k + 3 ≤ i). let g : find s3 (helping i) ≡ None = rw (apart_names helping one (k + 2) i (omega arith)) (new2 i (omega arith)) in g in
    let n3 = new3 (k + 3) (omega arith) in
    let s4 : Scope = (helping (k + 3), w) ∷ s3 in
    let a4 = stocked_more w ms sn s3 (helping (k + 3)) w n3 a3 in
    let new4 = λ (i : ℕ) (h : k + 4 ≤ i). let g : find s4 (helping i) ≡ None = rw (apart_names helping one (k + 3) i (omega arith)) (new3 i (omega arith)) in g in
    let first : find s3 (helping k) ≡ Some w =
    found_behind s2 (helping (k + 2)) w n2 (helping k) w (found_behind s1 (helping (k + 1)) w n1 (helping k) w (found_here (helping k) w sm)) in (
      wide,
      n0,
      none k,
      joint_fits w wide ms sm (Named m.name) m.enable own (operand_tagged w ms sn sm a.tags 1 m.enable m0.enable),
      (
        wide,
        n1,
        none (k + 1),
        joint_fits w wide ms s1 m.index m.value (operand_tagged w ms sn s1 a1.tags m0.bits m.index m0.index) (operand_tagged w ms sn s1 a1.tags m.width m.value m0.value),
        (
          wide,
          n2,
          none (k + 2),
          (operand_grows sn s2 a2.numbers 1 m.enable m0.enable, found_here (helping (k + 1)) w s1, (refl, pow_pos w)),
          (
            wide,
            n3,
            none (k + 3),
            (w, w, wide, wide, first, found_here (helping (k + 2)) w s2, refl, refl),
            write_wires_fit helping one w wide ms none sn s4 (k + 4) a4 new4 mems rules.1 found.1,
          ),
        ),
      ),
    )

pub write_wires_wide : (helping : ℕ → Name) (w k : ℕ) (mems : List Memory) → AreWide w (write_wires helping w k mems)
write_wires_wide helping w k [] = tt
write_wires_wide helping w k (m ∷ mems) = (refl, (refl, (refl, (refl, write_wires_wide helping w (k + 4) mems))))

pub write_wires_names : (helping : ℕ → Name) (w k : ℕ) (mems : List Memory) → names_of (write_wires helping w k mems) ≡ some_names helping k (help_for_writes mems)
write_wires_names helping w k [] = refl
write_wires_names helping w k (m ∷ mems) =
    let e : 4 + help_for_writes mems ≡ suc (suc (suc (suc (help_for_writes mems)))) = omega arith in
    let e1 : k + 1 + 1 ≡ k + 2 = omega arith in
    let e2 : k + 2 + 1 ≡ k + 3 = omega arith in
    let e3 : k + 3 + 1 ≡ k + 4 = omega arith in
    rw (e, e1, e2, e3) (ap (λ ns. helping k ∷ helping (k + 1) ∷ helping (k + 2) ∷ helping (k + 3) ∷ ns) (write_wires_names helping w (k + 4) mems))

-- a condition of one bit is 1 where it isn't 0
bit_test : (v a b : ℕ) → v < 2 → (if v == 0 then b else a) ≡ (if v == 1 then a else b)
bit_test (suc (suc v)) a b h = absurd (omega (arith, h))
bit_test _ a b h = refl

-- the tags of memories take what they should
pub memories_take : (helping : ℕ → Name) (w k : ℕ) (widths : Name → ℕ) (p u : Valuation) (mems : List Memory) → AllByRecursion (λ m. operand_value p m.enable < 2) mems
    → Holds widths p (write_wires helping w k mems) → AllByRecursion (λ r. u.value r.name ≡ operand_value p r.next) (memory_tags helping w k mems)
    → AllByRecursion (λ m. (tags_in u).memory m.name ≡ written_tag p (tags_in p) m) mems
memories_take helping w k widths p u [] bits holds next = tt
memories_take helping w k widths p u (m ∷ mems) bits holds next =
    let kept = holds.0 ∙ joint_value w widths p (Named m.name) m.enable in
    let new = holds.1.0 ∙ joint_value w widths p m.index m.value in
    let chosen = holds.1.1.0 ∙ bit_test (operand_value p m.enable) (p.value (helping (k + 1))) 0 bits.0
    ∙ ap (λ (x : ℕ). if operand_value p m.enable == 1 then x else 0) new in
    (next.0 ∙ holds.1.1.1.0 ∙ ap₂ bit_or kept chosen, memories_take helping w (k + 4) widths p u mems bits.1 holds.1.1.1.1 next.1)
