-- The inputs, registers and memories of the netlist of a system: their widths, and that each has a name of its own.
use Rattle.sap_lemmas.proofs.Common.{◌≡◌, ℕ, suc, ◌+◌, ◌<◌, true, not, List, [], ◌∷◌, ◌++◌, map, filter, get_or, length, None, sym, ◌∙◌, ap, ap₂, subst, inl, inr, arith, AllByRecursion, cases_Bool, all_append, all_filter, all_of_map, all_parts, map_of_all}
use Rattle.sap_maps.specs.Prelude.{Name, Scope, find}
use Rattle.sap_lattice.specs.Codes.{width_of}
use Rattle.sap_meaning.specs.Program.{Entity, Program, nothing, kind_is_input, is_input}
use Rattle.sap_net.specs.Prelude.{is_among, AreDistinct, Net, Shapes, AreValues, AreMemories, IsWidth, first_readable, shapes, value_name, tag_name}
use Rattle.sap_net.specs.declared.parts.Input.{Input}
use Rattle.sap_net.specs.declared.parts.Register.{Register}
use Rattle.sap_net.specs.declared.parts.Memory.{Memory}
use Rattle.sap_net.proofs.NamesLemmas.{among_behind, distinct_both, each_among, not_found}
use Rattle.sap_interface.specs.StandsFor.{name}
use Rattle.sap_build.specs.Copies.{copy_register, copy_memory}
use Rattle.sap_build.proofs.Inside.{of_entries}
use Rattle.sap_link.specs.Systems.{Endpoint, endpoint, System, IsPart, part, width_at, is_fed, inputs_from, inputs_in, inputs_of, free_inputs, no_part, WiresFit}
use Rattle.sap_link.specs.Systems.{world as world_at}
use Rattle.sap_linked.specs.Prelude.{NamedSystem, part_at, system_of, NamesFit, IsNetOf, inputs_for, linked_net, shown_names}
use Rattle.sap_linked.proofs.Differing.{is_low}
use Rattle.sap_linked.proofs.Ends.{interface_at}
use Rattle.sap_linked.proofs.InOrder.{same_registers, whole_registers, whole_registers_distinct}
use Rattle.sap_linked.proofs.Linked.{design_at}
use Rattle.sap_linked.proofs.Families.{map_both}
use Rattle.sap_linked.proofs.Parted.{absent, contradicted, distinct_front, entry_names, find_absent}
use Rattle.sap_linked.proofs.Showing.{all_differ, all_inner, all_inputs, all_memories, all_registers, all_wires, inner_distinct, input_no_inner, memory_inner, no_wire_or_register, own_registers, register_inner}
use Rattle.sap_linked.proofs.SideBySide.{to_all}
use Rattle.sap_linked.proofs.Wider.{distinct_second}

-- ---- of lists with names that differ

values_of : (ms : Shapes) (es : Scope) → AreDistinct (map (λ (e : Name × ℕ). e.0) es) → AllByRecursion (λ e. IsWidth e.1) es
    → AllByRecursion (λ e. find ms e.0 ≡ None) es → AreValues ms es
values_of ms [] d w f = tt
values_of ms (e ∷ es) d w f = (w.0, find_absent es e.0 d.0, f.0, values_of ms es d.1 w.1 f.1)

memories_of : (es : Shapes) → AreDistinct (map (λ (e : Name × (ℕ × ℕ)). e.0) es) → AllByRecursion (λ e. IsWidth e.1.0) es → AreMemories es
memories_of [] d w = tt
memories_of (e ∷ es) d w = (w.0, find_absent es e.0 d.0, memories_of es d.1 w.1)

values_wide : (ms : Shapes) (es : Scope) → AreValues ms es → AllByRecursion (λ e. IsWidth e.1) es
values_wide ms [] a = tt
values_wide ms (e ∷ es) a = (a.0, values_wide ms es a.3)

memories_wide : (es : Shapes) → AreMemories es → AllByRecursion (λ e. IsWidth e.1.0) es
memories_wide [] a = tt
memories_wide (e ∷ es) a = (a.0, memories_wide es a.2)

-- ---- what holds of each input of each part holds of all inputs

module _ (y : System) (P : Endpoint → Type 0) (h : (i x : ℕ) → IsPart y i → is_input (world_at y i) x ≡ true → P (endpoint i x)) where
  of_entities : (i : ℕ) → IsPart y i → (x : ℕ) (es : List Entity)
      → ((j : ℕ) → get_or (world_at y i).entities (x + j) nothing ≡ get_or es j nothing) → AllByRecursion P (map (endpoint i) (inputs_from x es))
  of_entities i low x [] at = tt
  of_entities i low x (e ∷ es) at =
      let from : x ≡ x + 0 = omega arith in
      let this : is_input (world_at y i) x ≡ kind_is_input e.kind =
      ap (λ (n : ℕ). kind_is_input (get_or (world_at y i).entities n nothing).kind) from ∙ ap (λ (z : Entity). kind_is_input z.kind) (at 0) in
      let behind = λ (j : ℕ). (let next : suc x + j ≡ x + suc j = omega arith in ap (λ (n : ℕ). get_or (world_at y i).entities n nothing) next ∙ at (suc j)) in
      let later = of_entities i low (suc x) es behind in
      elim (cases_Bool (kind_is_input e.kind)) [ inl t ↦ rw t (h i x low (this ∙ t), later) | inr q ↦ rw q later ]

  of_parts : (k : ℕ) (ps : List Program) → ((j : ℕ) → part y (k + j) ≡ get_or ps j (no_part y.order)) → k + length ps ≡ length y.parts → AllByRecursion P (inputs_of k ps)
  of_parts k [] at count = tt
  of_parts k (p ∷ ps) at count =
      let low : k < length y.parts = omega (arith, count) in
      let from : k ≡ k + 0 = omega arith in
      let this : part y k ≡ p = ap (part y) from ∙ at 0 in
      let behind = λ (j : ℕ). (let next : suc k + j ≡ k + suc j = omega arith in ap (part y) next ∙ at (suc j)) in
      all_append P (map (endpoint k) (inputs_in p.world)) (inputs_of (suc k) ps)
      (subst (λ (q : Program). AllByRecursion P (map (endpoint k) (inputs_in q.world))) this
      (of_entities k low 0 (world_at y k).entities (λ j. let same : 0 + j ≡ j = omega arith in ap (λ (n : ℕ). get_or (world_at y k).entities n nothing) same)))
      (of_parts (suc k) ps behind (omega (arith, count)))

  each_free : AllByRecursion P (free_inputs y)
  each_free =
      all_filter P (λ e. not (is_fed y.wires e)) (inputs_of 0 y.parts)
      (of_parts 0 y.parts (λ j. let same : 0 + j ≡ j = omega arith in ap (part y) same) (let same : 0 + length y.parts ≡ length y.parts = omega arith in same))

module _ (s : NamedSystem) (nets : ℕ → Net) (fit : NamesFit s) (good : WiresFit (system_of s)) (each : (i : ℕ) → i < length s.parts → IsNetOf s.order (part_at s i) (nets i)) where
  abbrev y : System
  y = system_of s

  abbrev whole : Net
  whole = linked_net s nets

  -- ---- widths

  module _ (i : ℕ) (low : i < length s.parts) where
    own_wide : AllByRecursion (λ (e : Name × ℕ). IsWidth e.1) (map {B = Name × ℕ} (λ (x : Input). (x.name, x.width)) (nets i).inputs)
        × AllByRecursion (λ (e : Name × ℕ). IsWidth e.1) (map {B = Name × ℕ} (λ (r : Register). (r.name, r.width)) (nets i).registers)
    own_wide =
        all_parts {X = Name × ℕ} (λ e. IsWidth e.1) (map {B = Name × ℕ} (λ (x : Input). (x.name, x.width)) (nets i).inputs)
        (map {B = Name × ℕ} (λ (r : Register). (r.name, r.width)) (nets i).registers)
        (values_wide (shapes (nets i)) (first_readable (nets i)) (each i low).netlist.values)

    pub input_wide : (x : ℕ) → is_input (world_at y i) x ≡ true → IsWidth (width_at y (endpoint i x)) × IsWidth (width_of s.order)
    input_wide x is =
        let d = design_at s i in
        let declares = (interface_at s nets fit each i low).declares.inputs x is in
        let wide = of_entries (λ (z : Name) (u : ℕ). IsWidth u) (map {B = Name × ℕ} (λ (z : Input). (z.name, z.width)) (nets i).inputs) own_wide.0 in
        (wide (value_name (name d x)) _ declares.0, wide (tag_name (name d x)) _ declares.1)

    registers_wide : AllByRecursion (λ (r : Register). IsWidth r.width) (nets i).registers
    registers_wide = all_of_map {X = Register} {Y = Name × ℕ} (λ e. IsWidth e.1) (λ r. (r.name, r.width)) (nets i).registers own_wide.1

    own_memories_wide : AllByRecursion (λ (m : Memory). IsWidth m.width) (nets i).memories
    own_memories_wide =
        all_of_map {X = Memory} {Y = Name × (ℕ × ℕ)} (λ e. IsWidth e.1.0) (λ m. (m.name, (m.width, m.depth))) (nets i).memories
        (memories_wide (shapes (nets i)) (each i low).netlist.memory_shapes)

  -- what holds of all registers holds of them in the netlist's order
  pub to_whole : (P : Register → Type 0) → AllByRecursion P (own_registers s nets fit good each) → AllByRecursion P whole.registers
  to_whole P a =
      let rs = own_registers s nets fit good each in
      let shown = λ (r : Register). is_among r.name (shown_names s) in
      all_append P (filter shown rs) (filter (λ r. not (shown r)) rs) (all_filter P shown rs a) (all_filter P (λ r. not (shown r)) rs a)

  inputs_wide : (es : List Endpoint) → AllByRecursion (λ e. IsWidth (width_at y e) × IsWidth (width_of s.order)) es
      → AllByRecursion (λ (x : Input). IsWidth x.width) (inputs_for s es)
  inputs_wide [] a = tt
  inputs_wide (e ∷ es) a = (a.0.0, (a.0.1, inputs_wide es a.1))

  all_wide : AllByRecursion (λ (e : Name × ℕ). IsWidth e.1) (first_readable whole)
  all_wide =
      all_append {A = Name × ℕ} (λ e. IsWidth e.1) (map {B = Name × ℕ} (λ (x : Input). (x.name, x.width)) whole.inputs)
      (map {B = Name × ℕ} (λ (r : Register). (r.name, r.width)) whole.registers)
      (map_of_all {X = Input} {Y = Name × ℕ} (λ e. IsWidth e.1) (λ x. (x.name, x.width)) whole.inputs
      (inputs_wide (free_inputs y) (each_free y (λ e. IsWidth (width_at y e) × IsWidth (width_of s.order)) (λ i x low is. input_wide i (is_low s nets fit good each i low) x is))))
      (map_of_all {X = Register} {Y = Name × ℕ} (λ e. IsWidth e.1) (λ r. (r.name, r.width)) whole.registers
      (to_whole (λ r. IsWidth r.width) (to_all (λ i. (nets i).registers) copy_register (λ r. IsWidth r.width) s (λ i low. registers_wide i low))))

  -- ---- names

  abbrev first_names : List Name
  first_names = all_inputs s nets fit good each ++ whole_registers s nets fit good each

  pub first_named : map (λ (e : Name × ℕ). e.0) (first_readable whole) ≡ first_names
  first_named =
      map_both {X = Name × ℕ} {Y = Name} (λ e. e.0) (map {B = Name × ℕ} (λ (x : Input). (x.name, x.width)) whole.inputs)
      (map {B = Name × ℕ} (λ (r : Register). (r.name, r.width)) whole.registers)
      ∙ ap₂ (λ (xs ys : List Name). xs ++ ys) (entry_names (λ (x : Input). x.name) (λ x. x.width) whole.inputs)
      (entry_names (λ (r : Register). r.name) (λ r. r.width) whole.registers)

  first_distinct : AreDistinct first_names
  first_distinct =
      distinct_both (all_inputs s nets fit good each) (whole_registers s nets fit good each)
      (distinct_front (all_inputs s nets fit good each) (all_inner s nets fit good each) (all_differ s nets fit good each))
      (whole_registers_distinct s nets fit good each)
      (λ x h. absent x (whole_registers s nets fit good each)
      (λ k. input_no_inner s nets fit good each x h (register_inner s nets fit good each x (sym (same_registers s nets fit good each x) ∙ k))))

  no_memory : (x : Name) → (is_among x (all_memories s nets fit good each) ≡ true → ⊥) → find (shapes whole) x ≡ None
  no_memory x h = not_found (λ (m : Memory). m.name) (λ m. (m.width, m.depth)) whole.memories x (absent x (all_memories s nets fit good each) h)

  pub wire_no_memory : (x : Name) → is_among x (all_wires s nets fit good each ++ all_registers s nets fit good each) ≡ true → find (shapes whole) x ≡ None
  wire_no_memory x h =
      no_memory x (λ k. contradicted (is_among x (all_wires s nets fit good each ++ all_registers s nets fit good each)) (no_wire_or_register s nets fit good each x k) h)

  first_no_memory : AllByRecursion (λ (e : Name × ℕ). find (shapes whole) e.0 ≡ None) (first_readable whole)
  first_no_memory =
      all_append {A = Name × ℕ} (λ e. find (shapes whole) e.0 ≡ None) (map {B = Name × ℕ} (λ (x : Input). (x.name, x.width)) whole.inputs)
      (map {B = Name × ℕ} (λ (r : Register). (r.name, r.width)) whole.registers)
      (map_of_all {X = Input} {Y = Name × ℕ} (λ e. find (shapes whole) e.0 ≡ None) (λ x. (x.name, x.width)) whole.inputs
      (all_of_map (λ x. find (shapes whole) x ≡ None) (λ (x : Input). x.name) whole.inputs (each_among (λ x. find (shapes whole) x ≡ None) (all_inputs s nets fit good each)
      (λ x h. no_memory x (λ k. input_no_inner s nets fit good each x h (memory_inner s nets fit good each x k))))))
      (map_of_all {X = Register} {Y = Name × ℕ} (λ e. find (shapes whole) e.0 ≡ None) (λ r. (r.name, r.width)) whole.registers
      (all_of_map (λ x. find (shapes whole) x ≡ None) (λ (r : Register). r.name) whole.registers
      (each_among (λ x. find (shapes whole) x ≡ None) (whole_registers s nets fit good each)
      (λ x h. wire_no_memory x (among_behind x (all_wires s nets fit good each) (all_registers s nets fit good each) (sym (same_registers s nets fit good each x) ∙ h))))))

  pub whole_values : AreValues (shapes whole) (first_readable whole)
  whole_values = values_of (shapes whole) (first_readable whole) (subst (λ (ns : List Name). AreDistinct ns) (sym first_named) first_distinct) all_wide first_no_memory

  pub whole_memories : AreMemories (shapes whole)
  whole_memories =
      memories_of (shapes whole)
      (subst (λ (ns : List Name). AreDistinct ns) (sym (entry_names (λ (m : Memory). m.name) (λ m. (m.width, m.depth)) whole.memories))
      (distinct_second (all_wires s nets fit good each ++ all_registers s nets fit good each) (all_memories s nets fit good each) (inner_distinct s nets fit good each)))
      (map_of_all {X = Memory} {Y = Name × (ℕ × ℕ)} (λ e. IsWidth e.1.0) (λ m. (m.name, (m.width, m.depth))) whole.memories
      (to_all (λ i. (nets i).memories) copy_memory (λ m. IsWidth m.width) s (λ i low. own_memories_wide i low)))
