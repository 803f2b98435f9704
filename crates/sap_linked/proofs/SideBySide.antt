-- The netlist of a system links those of its parts.
use Rattle.sap_lemmas.proofs.Common.{◌≡◌, ℕ, zero, suc, ◌+◌, ◌<◌, Bool, true, false, not, List, [], ◌∷◌, ◌++◌, map, filter, get_or, length, Option, Some, None, if◌then◌else◌, refl, sym, ◌∙◌, ap, subst, inl, inr, arith, ◌==◌, bit_or, AllByRecursion, cases_Bool, all_append, all_of_map, all_parts, all_second, map_of_all}
use Rattle.sap_maps.specs.Prelude.{Name, Valuation, find}
use Rattle.sap_lattice.specs.Prelude.{Order, code_of}
use Rattle.sap_net.specs.Prelude.{is_among, Net, Holds, IsNetlist, width_of as width_in}
use Rattle.sap_net.specs.declared.parts.Input.{Input}
use Rattle.sap_net.specs.declared.parts.Wire.{Wire}
use Rattle.sap_net.specs.declared.parts.Register.{Register}
use Rattle.sap_net.specs.declared.parts.Memory.{Memory}
use Rattle.sap_build.specs.Copies.{copy_wire, copy_register, copy_memory}
use Rattle.sap_build.specs.Parts.{IsPart, Feeds}
use Rattle.sap_link.specs.Systems.{Wire as SystemWire}
use Rattle.sap_linked.specs.Prelude.{Part, NamedSystem, no_part, part_at, in_part, value_at, tag_at, IsNetOf, Carries, through_level, feeds_through, feeds, copies_of, shown_names, linked_net, LinkedNetLinks}
use Rattle.sap_linked.proofs.Own.{inputs_feed, wires_feed, wires_own, registers_own, memories_own}
use Rattle.sap_linked.proofs.EachInput.{at_inputs}

-- what holds of all copies holds of those of part i
at_copies : {X : Type 0} (items : ℕ → List X) (copy : (Name → Name) → X → X) (P : X → Type 0) (o : Order) (k i : ℕ) (ps : List Part)
    → AllByRecursion P (copies_of items copy k ps) → i < length ps
    → AllByRecursion (λ x. P (copy (in_part (get_or ps i (no_part o)).name) x)) (items (k + i))
at_copies items copy P o k i [] a low = absurd (omega (arith, low))
at_copies {X} items copy P o k zero (p ∷ ps) a low =
    let same : k ≡ k + 0 = omega arith in
    subst (λ (n : ℕ). AllByRecursion (λ x. P (copy (in_part p.name) x)) (items n)) same
    (all_of_map P (copy (in_part p.name)) (items k) (all_parts P (map (copy (in_part p.name)) (items k)) (copies_of items copy (suc k) ps) a).0)
at_copies {X} items copy P o k (suc i) (p ∷ ps) a low =
    let same : suc k + i ≡ k + suc i = omega arith in
    subst (λ (n : ℕ). AllByRecursion (λ x. P (copy (in_part (get_or ps i (no_part o)).name) x)) (items n)) same
    (at_copies items copy P o (suc k) i ps (all_parts P (map (copy (in_part p.name)) (items k)) (copies_of items copy (suc k) ps) a).1 (omega (arith, low)))

from_zero : (n : ℕ) → 0 + n ≡ n
from_zero n = omega arith

pub of_first : {X : Type 0} (items : ℕ → List X) (copy : (Name → Name) → X → X) (P : X → Type 0) (s : NamedSystem) (i : ℕ)
    → AllByRecursion P (copies_of items copy 0 s.parts) → i < length s.parts
    → AllByRecursion (λ x. P (copy (in_part (part_at s i).name) x)) (items i)
of_first items copy P s i a low = subst (λ (n : ℕ). AllByRecursion (λ x. P (copy (in_part (part_at s i).name) x)) (items n)) (from_zero i)
    (at_copies items copy P s.order 0 i s.parts a low)

-- and what holds of the copies of each part holds of all
to_copies : {X : Type 0} (items : ℕ → List X) (copy : (Name → Name) → X → X) (P : X → Type 0) (o : Order) (k : ℕ) (ps : List Part)
    → ((i : ℕ) → i < length ps → AllByRecursion (λ x. P (copy (in_part (get_or ps i (no_part o)).name) x)) (items (k + i))) → AllByRecursion P (copies_of items copy k ps)
to_copies items copy P o k [] h = tt
to_copies {X} items copy P o k (p ∷ ps) h =
    let here : k + 0 ≡ k = omega arith in
    all_append P (map (copy (in_part p.name)) (items k)) (copies_of items copy (suc k) ps)
    (map_of_all P (copy (in_part p.name)) (items k) (subst (λ (n : ℕ). AllByRecursion (λ x. P (copy (in_part p.name) x)) (items n)) here (h 0 (omega arith))))
    (to_copies items copy P o (suc k) ps (λ i low.
    let same : k + suc i ≡ suc k + i = omega arith in
    subst (λ (n : ℕ). AllByRecursion (λ x. P (copy (in_part (get_or ps i (no_part o)).name) x)) (items n)) same (h (suc i) (omega (arith, low)))))

pub to_all : {X : Type 0} (items : ℕ → List X) (copy : (Name → Name) → X → X) (P : X → Type 0) (s : NamedSystem)
    → ((i : ℕ) → i < length s.parts → AllByRecursion (λ x. P (copy (in_part (part_at s i).name) x)) (items i)) → AllByRecursion P (copies_of items copy 0 s.parts)
to_all items copy P s h =
    to_copies items copy P s.order 0 s.parts
    (λ i low. subst (λ (n : ℕ). AllByRecursion (λ x. P (copy (in_part (part_at s i).name) x)) (items n)) (sym (from_zero i)) (h i low))

-- what holds of those that pass a test and of the others holds of all
pub of_two : {X : Type 0} (test : X → Bool) (P : X → Type 0) (xs : List X) → AllByRecursion P (filter test xs)
    → AllByRecursion P (filter (λ x. not (test x)) xs) → AllByRecursion P xs
of_two test P [] a b = tt
of_two test P (x ∷ xs) a b =
    elim (cases_Bool (test x)) [
      | inl t ↦ let c : P x × AllByRecursion P (filter test xs) = rw t at a in (c.0, of_two test P xs c.1 (rw t at b))
      | inr q ↦ let c : P x × AllByRecursion P (filter (λ x. not (test x)) xs) = rw q at b in (c.0, of_two test P xs (rw q at a) c.1)
    ]

-- ---- what wires carry

holds_front : (widths : Name → ℕ) (v : Valuation) (ws xs : List Wire) → Holds widths v (ws ++ xs) → Holds widths v ws
holds_front widths v [] xs h = tt
holds_front widths v (w ∷ ws) xs h = (h.0, holds_front widths v ws xs h.1)

holds_behind : (widths : Name → ℕ) (v : Valuation) (ws xs : List Wire) → Holds widths v (ws ++ xs) → Holds widths v xs
holds_behind widths v [] xs h = h
holds_behind widths v (w ∷ ws) xs h = holds_behind widths v ws xs h.1

chosen : (b : Bool) (n : ℕ) → (if (if b then 1 else 0) == 0 then 0 else n) ≡ (if b then n else 0)
chosen true n = refl
chosen false n = refl

module _ (s : NamedSystem) (widths : Name → ℕ) (v : Valuation) where
  through : (w : SystemWire) (l : Option ℕ) → Holds widths v (feeds_through s w l)
      → (v.value (value_at s w.to) ≡ (through_level s.order l (v.value (value_at s w.from)) (v.value (tag_at s w.from))).0)
      × (v.value (tag_at s w.to) ≡ (through_level s.order l (v.value (value_at s w.from)) (v.value (tag_at s w.from))).1)
  through w None h = (h.0, h.1.0)
  through w (Some l) h =
      let c = code_of s.order l in
      let below = h.1.0 ∙ ap (λ (n : ℕ). if n == c then 1 else 0) h.0 in (
        h.1.1.0 ∙ ap (λ (n : ℕ). if n == 0 then 0 else v.value (value_at s w.from)) below ∙ chosen (bit_or (v.value (tag_at s w.from)) c == c) (v.value (value_at s w.from)),
        h.1.1.1.0,
      )

  carry : (ws : List SystemWire) → Holds widths v (feeds s ws) → AllByRecursion (Carries s v) ws
  carry [] h = tt
  carry (w ∷ ws) h =
      let t = through w w.level (holds_front widths v (feeds_through s w w.level) (feeds s ws) h) in
      (record { value = t.0; tag = t.1 }, carry ws (holds_behind widths v (feeds_through s w w.level) (feeds s ws) h))

-- ---- parts

module _ (s : NamedSystem) (nets : ℕ → Net) (each : (i : ℕ) → i < length s.parts → IsNetOf s.order (part_at s i) (nets i)) (rules : IsNetlist (linked_net s nets)) where
  abbrev whole : Net
  whole = linked_net s nets

  feeding : AllByRecursion (λ (w : Wire). Feeds whole w.name w.width) (feeds s s.wires)
  feeding = (all_parts (λ (x : Wire). Feeds whole x.name x.width) (feeds s s.wires) (copies_of (λ i. (nets i).wires) copy_wire 0 s.parts) (wires_feed whole rules)).0

  module _ (i : ℕ) (low : i < length s.parts) where
    inputs_fed : AllByRecursion (λ (input : Input). Feeds whole (in_part (part_at s i).name input.name) input.width) (nets i).inputs
    inputs_fed = at_inputs s (Feeds whole) (inputs_feed whole rules) feeding i (nets i) (each i low)

    is_part : IsPart (in_part (part_at s i).name) (nets i) whole
    is_part =
        record {
          fed = inputs_fed;
          wires = of_first (λ i. (nets i).wires) copy_wire (λ (w : Wire). find (map (λ (w : Wire). (w.name, w)) whole.wires) w.name ≡ Some w) s i
              (all_second (λ (w : Wire). find (map (λ (w : Wire). (w.name, w)) whole.wires) w.name ≡ Some w) (feeds s s.wires)
              (copies_of (λ i. (nets i).wires) copy_wire 0 s.parts) (wires_own whole rules)) low;
          registers = of_first (λ i. (nets i).registers) copy_register (λ (r : Register). find (map (λ (r : Register). (r.name, r)) whole.registers) r.name ≡ Some r) s i
              (let all = copies_of (λ i. (nets i).registers) copy_register 0 s.parts in
              let shown = λ (r : Register). is_among r.name (shown_names s) in
              let two = all_parts (λ (r : Register). find (map (λ (r : Register). (r.name, r)) whole.registers) r.name ≡ Some r)
              (filter shown all) (filter (λ r. not (shown r)) all) (registers_own whole rules) in
              of_two shown (λ (r : Register). find (map (λ (r : Register). (r.name, r)) whole.registers) r.name ≡ Some r) all two.0 two.1) low;
          memories = of_first (λ i. (nets i).memories) copy_memory
              (λ (m : Memory). find (map (λ (m : Memory). (m.name, m)) whole.memories) m.name ≡ Some m) s i (memories_own whole rules) low;
        }

pub linked_net_links : LinkedNetLinks
linked_net_links s nets each rules =
    record {
      netlist = rules;
      parts = λ i low. is_part s nets each rules i low;
      interface_names = λ i low x is. refl;
      inputs = refl;
      carries = λ v valuation.
          carry s (width_in (linked_net s nets)) v s.wires
          (holds_front (width_in (linked_net s nets)) v (feeds s s.wires) (copies_of (λ i. (nets i).wires) copy_wire 0 s.parts) valuation.equations);
    }
