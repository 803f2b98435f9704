-- A cycle of the tainted netlist is one of the netlist, with the taint of each name.
use Rattle.sap_lemmas.proofs.Common.{◌≡◌, ◌<◌, ℕ, ◌+◌, ◌^◌, Bool, List, [], ◌∷◌, ◌++◌, Some, None, true, false, ap, ap₂, sym, ◌∙◌, subst, refl, unwrap_or, AllByRecursion, all_parts, all_follow}
use Rattle.sap_bits.specs.Arithmetic as concat
use Rattle.sap_bits.specs.Arithmetic.{value1, value2}
use Rattle.sap_maps.specs.Prelude.{Name, Valuation, Scope, find}
use Rattle.sap_net.specs.Prelude.{Net, is_among, AreDistinct, Shapes, AreValues, IsOperand, AreOperands, IsRight, AreWires, IsMemory, readable_after, first_readable, readable, shapes, width_of, IsValuation, Begins, operand_value, operand_width, operands_width, operands_value, right_value, Holds, WidthsAre}
use Rattle.sap_net.specs.declared.parts.Operand.{Operand}
use Rattle.sap_net.specs.declared.parts.Operand.TheVariants.{Named, Constant}
use Rattle.sap_net.specs.declared.parts.Right.{Right}
use Rattle.sap_net.specs.declared.parts.Right.TheVariants.{One, Two, Concat}
use Rattle.sap_net.specs.declared.parts.Wire.{Wire}
use Rattle.sap_net.specs.declared.parts.Register.{Register}
use Rattle.sap_net.specs.declared.parts.Memory.{Memory}
use Rattle.sap_net.proofs.NamesLemmas.{each_among, found_of}
use Rattle.sap_net.proofs.RulesLemmas.{Grows, readable_kept}
use Rattle.sap_net.proofs.Within.{operand_below, operand_is_wide, widths_are}
use Rattle.sap_taint.specs.TagNames.{name_of_tag, with_tags}
use Rattle.sap_taint.specs.Tags.{operand_tag, TagsHold}
use Rattle.sap_taint.specs.Runs.{TagsBegin}
use Rattle.sap_taint.specs.Carries.{read_off}
use Rattle.sap_taint_pass.specs.Tainted.{tags_read, tag_operand, joined, help_for, tag_wires, help_for_wires, tagged_registers, memory_tags, in_order, all_registers, tainted_by}
use Rattle.sap_build.proofs.Found.{entries_declared, registers_among}
use Rattle.sap_build.proofs.Inserted.{right_grows}
use Rattle.sap_taint_pass.proofs.FirstScope as first
use Rattle.sap_taint_pass.proofs.InOrder.{names_in, all_unordered}
use Rattle.sap_taint_pass.proofs.JoinWires.{tags_in, joined_value, join_is_tag}
use Rattle.sap_taint_pass.proofs.Setting.{Setting}
use Rattle.sap_taint_pass.proofs.WriteWires.{memories_take}
use Rattle.sap_taint_pass.proofs.Readable.{the_tag_wires, the_write_wires, stocked, memories_fit}
use Rattle.sap_taint_pass.proofs.IsTainted.{all_registers_declared}

-- all registers, in any order

none_there : (b : Bool) → (b ≡ true → ⊥) → b ≡ false
none_there true h = absurd (h refl)
none_there false h = refl

values_distinct : (ms : Shapes) (rs : List Register) → AreValues ms (first.register_entries rs) → AreDistinct (names_in rs)
values_distinct ms [] a = tt
values_distinct ms (r ∷ rs) a = (
  none_there (is_among r.name (names_in rs)) (λ t. let g =
      found_of (λ r. r.name) (λ r. r.width) rs r.name t in let e = g.1 in let f = a.1 in cc),
  values_distinct ms rs a.3,
)

entries_past : (ms : Shapes) (es bs : Scope) → AreValues ms (es ++ bs) → AreValues ms bs
entries_past ms [] bs a = a
entries_past ms (e ∷ es) bs a = entries_past ms es bs a.3

registers_distinct : (helping : ℕ → Name) (w : ℕ) (n : Net) → Setting helping w n → AreDistinct (names_in (all_registers helping w n))
registers_distinct helping w n s =
    let own = entries_past (shapes n) (first.input_entries n.inputs) (first.register_entries n.registers) s.rules.values in
    let declared = entries_declared {X = ℕ} (λ (r : Register). r.name) (λ r. r.width) n.names n.registers (registers_among n s.rules) in
    values_distinct (shapes n) (all_registers helping w n)
    (subst (AreValues (shapes n)) (sym (first.gathered_registers helping w (help_for_wires n.wires) n.registers n.memories))
    (first.entries_are_values helping w n s (first.register_entries n.registers) declared own))

-- what holds of them in their order holds of each kind
of_each : (helping : ℕ → Name) (w : ℕ) (n : Net) → Setting helping w n → (P : Register → Type 0) → AllByRecursion P (in_order (with_tags n.names) (all_registers helping w n))
    → AllByRecursion P (tagged_registers w n.registers) × AllByRecursion P (memory_tags helping w (help_for_wires n.wires) n.memories)
of_each helping w n s P a =
    all_parts P (tagged_registers w n.registers) (memory_tags helping w (help_for_wires n.wires) n.memories)
    (all_unordered P (with_tags n.names) (all_registers helping w n) (registers_distinct helping w n s)
    (each_among (λ x. is_among x (with_tags n.names) ≡ true) (names_in (all_registers helping w n)) (all_registers_declared helping w n s)) a)

-- the start

registers_start : (w : ℕ) (u : Valuation) (rs : List Register) → AllByRecursion (λ r. u.value r.name ≡ r.start) (tagged_registers w rs)
    → AllByRecursion (λ r. u.value r.name ≡ r.start) rs × AllByRecursion (λ r. (tags_in u).value r.name ≡ 0) rs
registers_start w u [] a = (tt, tt)
registers_start w u (r ∷ rs) a = let b = registers_start w u rs a.1.1 in ((a.0, b.0), (a.1.0, b.1))

memories_start : (helping : ℕ → Name) (w k : ℕ) (u : Valuation) (ms : List Memory) → AllByRecursion (λ r. u.value r.name ≡ r.start) (memory_tags helping w k ms)
    → AllByRecursion (λ m. (tags_in u).memory m.name ≡ 0) ms
memories_start helping w k u [] a = tt
memories_start helping w k u (m ∷ ms) a = (a.0, memories_start helping w (k + 4) u ms a.1)

pub first_begins : (helping : ℕ → Name) (w : ℕ) (n : Net) → Setting helping w n → (u : Valuation) → Begins (tainted_by helping w n) None u
    → Begins n None u × TagsBegin n None (tags_in u)
first_begins helping w n s u a =
    let each = of_each helping w n s (λ r. u.value r.name ≡ r.start) a.0 in
    let b = registers_start w u n.registers each.0 in
    ((b.0, a.1), (b.1, memories_start helping w (help_for_wires n.wires) u n.memories each.1))

-- the edge

operand_tag_value : (w : ℕ) (p : Valuation) (o : Operand) → operand_value p (tag_operand w o) ≡ operand_tag (tags_in p) o
operand_tag_value w p (Named x) = refl
operand_tag_value w p (Constant u n) = refl

registers_take : (w : ℕ) (p u : Valuation) (rs : List Register) → AllByRecursion (λ r. u.value r.name ≡ operand_value p r.next) (tagged_registers w rs)
    → AllByRecursion (λ r. u.value r.name ≡ operand_value p r.next) rs × AllByRecursion (λ r. (tags_in u).value r.name ≡ operand_tag (tags_in p) r.next) rs
registers_take w p u [] a = (tt, tt)
registers_take w p u (r ∷ rs) a =
    let b = registers_take w p u rs a.1.1 in ((a.0, b.0), (a.1.0 ∙ operand_tag_value w p r.next, b.1))

holds_parts : (widths : Name → ℕ) (v : Valuation) (ws xs : List Wire) → Holds widths v (ws ++ xs) → Holds widths v ws × Holds widths v xs
holds_parts widths v [] xs h = (tt, h)
holds_parts widths v (w ∷ ws) xs h = let r = holds_parts widths v ws xs h.1 in ((h.0, r.0), r.1)

conditions_below : (sm : Scope) (p : Valuation) → ((x : Name) (u : ℕ) → find sm x ≡ Some u → p.value x < 2 ^ u) → (ms : List Memory) → AllByRecursion (IsMemory sm) ms
    → AllByRecursion (λ m. operand_value p m.enable < 2) ms
conditions_below sm p below ms a =
    all_follow (IsMemory sm) (λ m. operand_value p m.enable < 2) ms (λ m h. operand_below sm p below 1 m.enable h.enable) a

pub later_begins : (helping : ℕ → Name) (w : ℕ) (n : Net) → Setting helping w n → (p u : Valuation) → IsValuation (tainted_by helping w n) p
    → Begins (tainted_by helping w n) (Some p) u
    → Begins n (Some p) u × TagsBegin n (Some (read_off p)) (tags_in u)
later_begins helping w n s p u v a =
    let m = tainted_by helping w n in
    let each = of_each helping w n s (λ r. u.value r.name ≡ operand_value p r.next) a.0 in
    let b = registers_take w p u n.registers each.0 in
    let behind = (holds_parts (width_of m) p n.wires (the_tag_wires helping w n ++ the_write_wires helping w n) v.equations).1 in
    let writes = (holds_parts (width_of m) p (the_tag_wires helping w n) (the_write_wires helping w n) behind).1 in (
      (b.0, a.1),
      (
        b.1,
        memories_take helping w (help_for_wires n.wires) (width_of m) p u n.memories
            (conditions_below (readable m) p v.within.value n.memories (memories_fit helping w n s)) writes each.1,
      ),
    )

-- wires

same_width : (sc : Scope) (a b : Name → ℕ) → WidthsAre sc a → WidthsAre sc b → (u : ℕ) (o : Operand) → IsOperand sc u o → operand_width a o ≡ operand_width b o
same_width sc a b h k u o i = operand_is_wide sc a h u o i ∙ sym (operand_is_wide sc b k u o i)

same_widths : (sc : Scope) (a b : Name → ℕ) → WidthsAre sc a → WidthsAre sc b → (u : ℕ) (os : List Operand) → AreOperands sc u os → operands_width a os ≡ operands_width b os
same_widths sc a b h k u [] i = refl
same_widths sc a b h k u (o ∷ os) i = ap₂ (λ x y. x + y) (same_width sc a b h k i.0 o i.3) (same_widths sc a b h k i.1 os i.4)

same_operands : (sc : Scope) (a b : Name → ℕ) (v : Valuation) → WidthsAre sc a → WidthsAre sc b → (u : ℕ) (os : List Operand)
    → AreOperands sc u os → operands_value a v os ≡ operands_value b v os
same_operands sc a b v h k u [] i = refl
same_operands sc a b v h k u (o ∷ os) i =
    ap₂ (λ x y. concat.joined (operand_value v o) x y) (same_widths sc a b h k i.1 os i.4) (same_operands sc a b v h k i.1 os i.4)

same_right : (ms : Shapes) (sc : Scope) (a b : Name → ℕ) (v : Valuation) → WidthsAre sc a → WidthsAre sc b → (u : ℕ) (r : Right)
    → IsRight ms sc u r → right_value a v r ≡ right_value b v r
same_right ms sc a b v h k u (One op o) i = ap (λ x. value1 op x (operand_value v o)) (same_width sc a b h k i.0 o i.2)
same_right ms sc a b v h k u (Two op o q) i = ap (λ x. value2 op x (operand_value v o) (operand_value v q)) (same_width sc a b h k i.0 o i.4)
same_right ms sc a b v h k u (Concat os) i = same_operands sc a b v h k u os i.1
same_right ms sc a b v h k u _ i = refl

data_holds : (ms : Shapes) (all : Scope) (a b : Name → ℕ) (v : Valuation) → WidthsAre all a → WidthsAre all b
    → (ws : List Wire) (sc : Scope) → AreWires ms sc ws → Grows (readable_after sc ws) all
    → Holds a v ws → Holds b v ws
data_holds ms all a b v h k [] sc rules g holds = tt
data_holds ms all a b v h k (x ∷ ws) sc rules g holds = (
  holds.0 ∙ same_right ms all a b v h k x.width x.right (right_grows ms ms (λ m t f. f) sc all (λ y u f. g y u (readable_kept ms (x ∷ ws) sc rules y u f)) x.width x.right rules.3),
  data_holds ms all a b v h k ws ((x.name, x.width) ∷ sc) rules.4 g holds.1,
)

tags_hold : (helping : ℕ → Name) (w : ℕ) (widths : Name → ℕ) (v : Valuation) (k : ℕ) (ws : List Wire) → Holds widths v (tag_wires helping w k ws) → TagsHold (tags_in v) ws
tags_hold helping w widths v k [] h = tt
tags_hold helping w widths v k (x ∷ ws) h =
    let c = help_for (tags_read x) in
    let parts = holds_parts widths v (joined helping w k (name_of_tag x.name) (tags_read x)) (tag_wires helping w (k + c) ws) h in
    (joined_value helping w widths v k (name_of_tag x.name) (tags_read x) parts.0 ∙ join_is_tag v x.right, tags_hold helping w widths v (k + c) ws parts.1)

pub wires_hold : (helping : ℕ → Name) (w : ℕ) (n : Net) → Setting helping w n → (u : Valuation) → IsValuation (tainted_by helping w n) u
    → Holds (width_of n) u n.wires × TagsHold (tags_in u) n.wires
wires_hold helping w n s u a =
    let m = tainted_by helping w n in
    let whole = holds_parts (width_of m) u n.wires (the_tag_wires helping w n ++ the_write_wires helping w n) a.equations in
    let tags = holds_parts (width_of m) u (the_tag_wires helping w n) (the_write_wires helping w n) whole.1 in
    let wide : WidthsAre (readable n) (width_of m) = λ x k h. let e = (stocked helping w n s).numbers x k h in ap (λ o. unwrap_or o 0) e in (
      data_holds (shapes n) (readable n) (width_of m) (width_of n) u wide (widths_are n) n.wires (first_readable n) s.rules.assigns (λ y k h. h) whole.0,
      tags_hold helping w (width_of m) u 0 n.wires tags.0,
    )
