-- Wires of two cycles keep what inputs and registers keep.
use Rattle.sap_lemmas.proofs.Common.{◌≡◌, ℕ, List, [], ◌∷◌, ◌++◌, Some, true, ap, ◌∙◌, subst, refl, ⊎_elim, inl, inr, ◌==◌, bytes_eq, cases_Bool, equal_of_bytes_eq}
use Rattle.sap_bits.specs.Arithmetic.{value1, slice_of}
use Rattle.sap_maps.specs.Prelude.{Name, Scope, find}
use Rattle.sap_net.specs.Prelude.{operand_value, operand_width, operands_value, right_value, Holds, Shapes, IsOperand, AreOperands, IsRight, AreWires, readable_after, IsMemory, written}
use Rattle.sap_net.specs.declared.parts.Operand.{Operand}
use Rattle.sap_net.specs.declared.parts.Operand.TheVariants.{Named, Constant}
use Rattle.sap_net.specs.declared.parts.Right.{Right}
use Rattle.sap_net.specs.declared.parts.Right.TheVariants.{Copy, One, Two, Choose, Concat, Slice, Cell}
use Rattle.sap_net.specs.declared.parts.Wire.{Wire}
use Rattle.sap_net.specs.declared.parts.Memory.{Memory}
use Rattle.sap_taint.specs.Tags.{operand_tag, operands_tag, right_tag, TagsHold, written_tag}
use Rattle.sap_taint.specs.Runs.{TaggedValuation}
use Rattle.sap_meaning.specs.Agree.{Relation}
use Rattle.sap_taint.proofs.Keeps.{Keeps}

-- a name, a memory, an operand and what is written to a memory are related
abbrev pub NameRelated : Relation → TaggedValuation → TaggedValuation → Name → Type 0
NameRelated R c d x = R (c.numbers.value x ≡ d.numbers.value x) (c.tags.value x) (d.tags.value x)

abbrev pub MemoryRelated : Relation → TaggedValuation → TaggedValuation → Name → Type 0
MemoryRelated R c d m = R ((i : ℕ) → c.numbers.cell m i ≡ d.numbers.cell m i) (c.tags.memory m) (d.tags.memory m)

abbrev pub OperandRelated : Relation → TaggedValuation → TaggedValuation → Operand → Type 0
OperandRelated R c d o = R (operand_value c.numbers o ≡ operand_value d.numbers o) (operand_tag c.tags o) (operand_tag d.tags o)

abbrev pub WrittenRelated : Relation → TaggedValuation → TaggedValuation → Memory → Type 0
WrittenRelated R c d m = R ((i : ℕ) → written c.numbers m i ≡ written d.numbers m i) (written_tag c.numbers c.tags m) (written_tag d.numbers d.tags m)

-- what is declared is related
abbrev pub ValuesRelated : Relation → Scope → TaggedValuation → TaggedValuation → Type 0
ValuesRelated R sc c d =
    (x : Name) (w : ℕ) → find sc x ≡ Some w → NameRelated R c d x

abbrev pub MemoriesRelated : Relation → Shapes → TaggedValuation → TaggedValuation → Type 0
MemoriesRelated R ms c d =
    (m : Name) (s : ℕ × ℕ) → find ms m ≡ Some s → MemoryRelated R c d m

pub values_more : (R : Relation) (sc : Scope) (c d : TaggedValuation) (m : Name) (k : ℕ) → ValuesRelated R sc c d
    → NameRelated R c d m → ValuesRelated R ((m, k) ∷ sc) c d
values_more R sc c d m k a e x w h =
    ⊎_elim
    (λ t. subst (λ (y : Name). NameRelated R c d y) (equal_of_bytes_eq m x t) e)
    (λ f. a x w (rw f at h))
    (cases_Bool (bytes_eq m x))

values_less : (R : Relation) (e : Name × ℕ) (sc : Scope) (c d : TaggedValuation) → ValuesRelated R (e ∷ sc) c d → ValuesRelated R sc c d
values_less R e sc c d a m k g =
    ⊎_elim (λ t. a m e.1 (rw t)) (λ f. a m k (rw f g)) (cases_Bool (bytes_eq e.0 m))

pub values_both : (R : Relation) (sc sd : Scope) (c d : TaggedValuation) → ValuesRelated R sc c d → ValuesRelated R sd c d → ValuesRelated R (sc ++ sd) c d
values_both R [] sd c d a b x w h = b x w h
values_both R (e ∷ sc) sd c d a b x w h =
    ⊎_elim
    (λ t. a x e.1 (rw t))
    (λ f. values_both R sc sd c d (values_less R e sc c d a) b x w (rw f at h))
    (cases_Bool (bytes_eq e.0 x))

pub operand_related : (R : Relation) → Keeps R → (sc : Scope) (c d : TaggedValuation) → ValuesRelated R sc c d → (u : ℕ) (o : Operand) → IsOperand sc u o
    → OperandRelated R c d o
operand_related R k sc c d a u (Named x) h = a x u h
operand_related R k sc c d a u (Constant w x) h = k.plain _ refl

operands_related : (R : Relation) → Keeps R → (widths : Name → ℕ) (sc : Scope) (c d : TaggedValuation) → ValuesRelated R sc c d → (u : ℕ) (os : List Operand) → AreOperands sc u os
    → R (operands_value widths c.numbers os ≡ operands_value widths d.numbers os) (operands_tag c.tags os) (operands_tag d.tags os)
operands_related R k widths sc c d a u [] h = k.plain _ refl
operands_related R k widths sc c d a u (o ∷ os) h =
    k.follow _ _ _ _ (λ p. let e = p.0 in let f = p.1 in cc)
    (k.joined _ _ _ _ _ _ (operand_related R k sc c d a h.0 o h.3) (λ _. operands_related R k widths sc c d a h.1 os h.4))

pub right_related : (R : Relation) → Keeps R → (widths : Name → ℕ) (ms : Shapes) (sc : Scope) (c d : TaggedValuation) → ValuesRelated R sc c d → MemoriesRelated R ms c d
    → (u : ℕ) (r : Right) → IsRight ms sc u r → R (right_value widths c.numbers r ≡ right_value widths d.numbers r) (right_tag c.tags r) (right_tag d.tags r)
right_related R k widths ms sc c d a b u (Copy o) h = operand_related R k sc c d a u o h
right_related R k widths ms sc c d a b u (One op o) h =
    k.follow _ _ _ _ (λ e. ap (λ x. value1 op (operand_width widths o) x) e) (operand_related R k sc c d a h.0 o h.2)
right_related R k widths ms sc c d a b u (Two op o p) h =
    k.follow _ _ _ _ (λ g. let e = g.0 in let f = g.1 in cc)
    (k.joined _ _ _ _ _ _ (operand_related R k sc c d a h.0 o h.4) (λ _. operand_related R k sc c d a h.1 p h.5))
right_related R k widths ms sc c d a b u (Choose t o p) h =
    k.follow _ _ _ _ (λ g. let e = g.0 in let f = g.1.0 in let i = g.1.1 in cc)
    (k.joined _ _ _ _ _ _ (operand_related R k sc c d a 1 t h.0)
    (λ _. k.joined _ _ _ _ _ _ (operand_related R k sc c d a u o h.1) (λ _. operand_related R k sc c d a u p h.2)))
right_related R k widths ms sc c d a b u (Concat os) h = operands_related R k widths sc c d a u os h.1
right_related R k widths ms sc c d a b u (Slice x hi lo) h = k.follow _ _ _ _ (λ e. ap (λ y. slice_of y hi lo) e) (a x h.0 h.2)
right_related R k widths ms sc c d a b u (Cell m i) h =
    k.follow _ _ _ _ (λ g. g.0 (operand_value c.numbers i) ∙ ap (d.numbers.cell m) g.1)
    (k.joined _ _ _ _ _ _ (b m _ h.1) (λ _. operand_related R k sc c d a h.0 i h.2))

pub wires_related : (R : Relation) → Keeps R → (widths : Name → ℕ) (ms : Shapes) (ws : List Wire) (sc : Scope) (c d : TaggedValuation) → AreWires ms sc ws
    → MemoriesRelated R ms c d → ValuesRelated R sc c d → Holds widths c.numbers ws → Holds widths d.numbers ws → TagsHold c.tags ws → TagsHold d.tags ws
    → ValuesRelated R (readable_after sc ws) c d
wires_related R k widths ms [] sc c d rules b a hc hd tc td = a
wires_related R k widths ms (x ∷ ws) sc c d rules b a hc hd tc td =
    let r = right_related R k widths ms sc c d a b x.width x.right rules.3 in
    wires_related R k widths ms ws ((x.name, x.width) ∷ sc) c d rules.4 b
    (values_more R sc c d x.name x.width a (rw (hc.0, hd.0, tc.0, td.0) r))
    hc.1 hd.1 tc.1 td.1

-- a memory's write, by whether it is written in both
pub written_related : (R : Relation) → Keeps R → (sc : Scope) (ms : Shapes) (c d : TaggedValuation) → ValuesRelated R sc c d → MemoriesRelated R ms c d
    → (m : Memory) → IsMemory sc m → find ms m.name ≡ Some (m.width, m.depth)
    → WrittenRelated R c d m
written_related R k sc ms c d a b m rules has =
    let enable = operand_related R k sc c d a 1 m.enable rules.enable in
    let index = operand_related R k sc c d a rules.bits m.index rules.index in
    let value = operand_related R k sc c d a m.width m.value rules.value in
    k.follow _ _ _ _
    (λ g i. let kept = g.0.0 i in let same = g.0.1 in
    elim (cases_Bool (operand_value d.numbers m.enable == 1)) [
      | inl t ↦ (let e = (g.1 t).0 in let f = (g.1 t).1 in cc)
      | inr f ↦ rw (same, f) kept
    ])
    (k.joined _ ((operand_value d.numbers m.enable == 1) ≡ true → (operand_value c.numbers m.index ≡ operand_value d.numbers m.index)
    × (operand_value c.numbers m.value ≡ operand_value d.numbers m.value)) _ _ _ _
    (k.joined _ _ _ _ _ _ (b m.name _ has) (λ _. enable))
    (λ g. elim (cases_Bool (operand_value d.numbers m.enable == 1)) [
      | inl t ↦ rw (g.1, t) (k.follow _ _ _ _ (λ p _. p) (k.joined _ _ _ _ _ _ index (λ _. value)))
      | inr f ↦ rw (g.1, f) (k.plain _ (λ t. absurd (cc)))
    ]))
