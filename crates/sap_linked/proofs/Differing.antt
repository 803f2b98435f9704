-- No two inputs, wires, registers or memories of the netlist of a system have one name.
use Rattle.sap_lemmas.proofs.Common.{◌≡◌, ◌⊎◌, ℕ, ◌<◌, ◌≤◌, true, List, [], ◌∷◌, ◌++◌, length, refl, sym, ◌∙◌, ap, ap₂, subst, inl, inr, arith, AllByRecursion, byte, Bool, not, and_parts, cases_Bool, length_map}
use Rattle.sap_maps.specs.Maps.{Name}
use Rattle.sap_lattice.specs.Codes.{width_of}
use Rattle.sap_meaning.specs.Program.{is_input}
use Rattle.sap_net.specs.Prelude.{is_among, AreDistinct, Net, first_readable, input_names, memory_names, names_of, register_names, shapes, wire_names, value_name, tag_name}
use Rattle.sap_net.specs.declared.parts.Wire.{Wire}
use Rattle.sap_net.specs.declared.parts.Register.{Register}
use Rattle.sap_net.specs.declared.parts.Memory.{Memory}
use Rattle.sap_net.proofs.NamesLemmas.{distinct_both, filter_distinct}
use Rattle.sap_net.proofs.RulesLemmas.{wires_distinct}
use Rattle.sap_net.specs.declared.parts.PortKind.TheVariants as kind
use Rattle.sap_interface.specs.StandsFor.{Named, name, world}
use Rattle.sap_build.specs.Copies.{copy_wire, copy_register, copy_memory}
use Rattle.sap_build.proofs.Found.{memories_among, registers_among, wires_among}
use Rattle.sap_link.specs.Systems.{Endpoint, endpoint, is_fed, same_endpoint, WiresFit, Connects}
use Rattle.sap_link.specs.Systems.{Wire as SystemWire}
use Rattle.sap_linked.specs.Prelude.{Part, NamedSystem, part_at, system_of, in_part, NamesFit, IsNetOf, copies_of, feeds, linked_net, InputsInOrder, AllNamesDiffer, is_free, names_of_inputs}
use Rattle.sap_linked.proofs.Ends.{end_apart, feeds_distinct, interface_at, of_feeds, one_end, pairs_distinct, AllTo, IsEnd, IsInput}
use Rattle.sap_linked.proofs.Families.{copies_distinct, copies_named, map_both, meets, named_copies, of_among, whole_list}
use Rattle.sap_linked.proofs.Entities.{names_of_pairs, of_pair, still_distinct}
use Rattle.sap_linked.proofs.Linked.{design_at, design_is}
use Rattle.sap_linked.proofs.Parted.{absent, either}
use Rattle.sap_linked.proofs.Ports.{block_names, free_of, inputs_are, names_in}
use Rattle.sap_linked.proofs.PartNames.{input_no_memory, input_no_register, name_long, register_no_memory, wire_no_input, wire_no_memory, wire_no_register}

module _ (s : NamedSystem) (nets : ℕ → Net) (fit : NamesFit s) (good : WiresFit (system_of s)) (each : (i : ℕ) → i < length s.parts → IsNetOf s.order (part_at s i) (nets i)) where
  abbrev pub wires_in : ℕ → List Name
  wires_in i = wire_names (nets i)

  abbrev pub registers_in : ℕ → List Name
  registers_in i = register_names (nets i)

  abbrev pub memories_in : ℕ → List Name
  memories_in i = memory_names (nets i)

  pub long : (i : ℕ) → i < length s.parts → (x : Name) → is_among x (nets i).names ≡ true → 2 ≤ length x
  long i low x h = name_long (design_at s i) (width_of s.order) (part_at s i).sites (nets i) (interface_at s nets fit each i low) x h

  pub wires_declared : (i : ℕ) → i < length s.parts → (x : Name) → is_among x (wires_in i) ≡ true → is_among x (nets i).names ≡ true
  wires_declared i low = wires_among (nets i) (each i low).netlist

  pub registers_declared : (i : ℕ) → i < length s.parts → (x : Name) → is_among x (registers_in i) ≡ true → is_among x (nets i).names ≡ true
  registers_declared i low = registers_among (nets i) (each i low).netlist

  pub memories_declared : (i : ℕ) → i < length s.parts → (x : Name) → is_among x (memories_in i) ≡ true → is_among x (nets i).names ≡ true
  memories_declared i low = memories_among (nets i) (each i low).netlist

  pub wires_long : (i : ℕ) → i < length s.parts → (x : Name) → is_among x (wires_in i) ≡ true → 2 ≤ length x
  wires_long i low x h = long i low x (wires_declared i low x h)

  pub registers_long : (i : ℕ) → i < length s.parts → (x : Name) → is_among x (registers_in i) ≡ true → 2 ≤ length x
  registers_long i low x h = long i low x (registers_declared i low x h)

  pub memories_long : (i : ℕ) → i < length s.parts → (x : Name) → is_among x (memories_in i) ≡ true → 2 ≤ length x
  memories_long i low x h = long i low x (memories_declared i low x h)

  pub is_low : (i : ℕ) → i < length (system_of s).parts → i < length s.parts
  is_low i is = let same = length_map (λ (p : Part). p.design.program) s.parts in omega (arith, same, is)

  pub all_inputs : (ws : List SystemWire) → AllByRecursion (Connects (system_of s)) ws → AllByRecursion (λ w. IsInput s nets fit each w.to) ws
  all_inputs [] a = tt
  all_inputs (w ∷ ws) a = (record { low = is_low w.to.part a.0.to_part; input = a.0.input }, all_inputs ws a.1)

  pub all_to : (ws : List SystemWire) → AllByRecursion (λ w. IsInput s nets fit each w.to) ws → AllTo s nets fit each (λ e. Unit {0}) ws
  all_to [] a = tt
  all_to (w ∷ ws) a = ((a.0, tt), all_to ws a.1)

  abbrev fed : List Name
  fed = names_of (feeds s s.wires)

  abbrev wires_there : List Name
  wires_there = named_copies wires_in 0 s.parts

  abbrev registers_there : List Name
  registers_there = named_copies registers_in 0 s.parts

  abbrev memories_there : List Name
  memories_there = named_copies memories_in 0 s.parts

  module _ (ns : ℕ → List Name) (declared : (i : ℕ) → i < length s.parts → (x : Name) → is_among x (ns i) ≡ true → is_among x (nets i).names ≡ true)
      (others : (i : ℕ) → i < length s.parts → (x : Name) → is_among x (ns i) ≡ true → is_among x (input_names (nets i)) ≡ true → ⊥) where
    fed_apart : (z : Name) → is_among z fed ≡ true → is_among z (named_copies ns 0 s.parts) ≡ true → ⊥
    fed_apart z h k =
        end_apart s nets fit each (λ e. Unit {0}) ns declared others (λ i low x is. long i low x (declared i low x is)) 0 z
        (of_feeds s nets fit each (λ e. Unit {0}) s.wires (all_to s.wires (all_inputs s.wires good.each)) z h) (of_among s ns 0 s.parts (whole_list s) z k)

  no_inputs_wires : (i : ℕ) → i < length s.parts → (x : Name) → is_among x (wires_in i) ≡ true → is_among x (input_names (nets i)) ≡ true → ⊥
  no_inputs_wires i low x = wire_no_input (nets i) (each i low).netlist x

  no_inputs_registers : (i : ℕ) → i < length s.parts → (x : Name) → is_among x (registers_in i) ≡ true → is_among x (input_names (nets i)) ≡ true → ⊥
  no_inputs_registers i low x h k = input_no_register (nets i) (each i low).netlist x k h

  no_inputs_memories : (i : ℕ) → i < length s.parts → (x : Name) → is_among x (memories_in i) ≡ true → is_among x (input_names (nets i)) ≡ true → ⊥
  no_inputs_memories i low x h k = input_no_memory (nets i) (each i low).netlist x k h

  wires_registers : (z : Name) → is_among z wires_there ≡ true → is_among z registers_there ≡ true → ⊥
  wires_registers z h k =
      let m = meets s fit wires_in registers_in wires_long registers_long 0 0 z (of_among s wires_in 0 s.parts (whole_list s) z h)
      (of_among s registers_in 0 s.parts (whole_list s) z k) in
      wire_no_register (nets m.0) (each m.0 m.2).netlist m.1 m.3 m.4

  wires_memories : (z : Name) → is_among z wires_there ≡ true → is_among z memories_there ≡ true → ⊥
  wires_memories z h k =
      let m = meets s fit wires_in memories_in wires_long memories_long 0 0 z (of_among s wires_in 0 s.parts (whole_list s) z h)
      (of_among s memories_in 0 s.parts (whole_list s) z k) in
      wire_no_memory (nets m.0) (each m.0 m.2).netlist m.1 m.3 m.4

  registers_memories : (z : Name) → is_among z registers_there ≡ true → is_among z memories_there ≡ true → ⊥
  registers_memories z h k =
      let m = meets s fit registers_in memories_in registers_long memories_long 0 0 z (of_among s registers_in 0 s.parts (whole_list s) z h)
      (of_among s memories_in 0 s.parts (whole_list s) z k) in
      register_no_memory (nets m.0) (each m.0 m.2).netlist m.1 m.3 m.4

  all_wires_distinct : AreDistinct (fed ++ wires_there)
  all_wires_distinct =
      distinct_both fed wires_there (feeds_distinct s nets fit each s.wires good.once (all_inputs s.wires good.each))
      (copies_distinct s fit wires_in wires_long
      (λ i low. wires_distinct (shapes (nets i)) (nets i).wires (first_readable (nets i)) (each i low).netlist.assigns) 0 s.parts (whole_list s))
      (λ z h. absent z wires_there (fed_apart wires_in wires_declared no_inputs_wires z h))

  with_registers : AreDistinct (fed ++ wires_there ++ registers_there)
  with_registers =
      distinct_both (fed ++ wires_there) registers_there all_wires_distinct
      (copies_distinct s fit registers_in registers_long
      (λ i low. subst (λ (ns : List Name). AreDistinct ns) (each i low).netlist.registers_in_order
      (filter_distinct (λ x. is_among x (registers_in i)) (nets i).names (each i low).netlist.declared_once)) 0 s.parts (whole_list s))
      (λ z h. absent z registers_there (λ k. elim (either fed wires_there z h) [
        | inl f ↦ fed_apart registers_in registers_declared no_inputs_registers z f k
        | inr w ↦ wires_registers z w k
      ]))

  with_memories : AreDistinct (fed ++ wires_there ++ registers_there ++ memories_there)
  with_memories =
      distinct_both (fed ++ wires_there ++ registers_there) memories_there with_registers
      (copies_distinct s fit memories_in memories_long
      (λ i low. subst (λ (ns : List Name). AreDistinct ns) (each i low).netlist.memories_in_order
      (filter_distinct (λ x. is_among x (memories_in i)) (nets i).names (each i low).netlist.declared_once)) 0 s.parts (whole_list s))
      (λ z h. absent z memories_there (λ k. elim (either (fed ++ wires_there) registers_there z h) [
        | inl f ↦ elim (either fed wires_there z f) [
          | inl g ↦ fed_apart memories_in memories_declared no_inputs_memories z g k
          | inr w ↦ wires_memories z w k
        ]
        | inr r ↦ registers_memories z r k
      ]))

  -- ---- with the free inputs

  abbrev pub free_in : ℕ → List Name
  free_in i = names_of_pairs (part_at s i).design kind.Input (is_free s.wires (part_at s i) i) 0 (world (part_at s i).design).entities

  abbrev pub free_there : List Name
  free_there = named_copies free_in 0 s.parts

  pub inputs_there : InputsInOrder → input_names (linked_net s nets) ≡ free_there
  inputs_there order = order s ∙ ap names_in (inputs_are s.wires 0 s.parts) ∙ block_names s (free_of s.wires) 0 s.parts (whole_list s)

  same_design : (i : ℕ) → i < length s.parts → design_at s i ≡ (part_at s i).design
  same_design i low = design_is s i (each i low).codes

  pub own_pairs : (i : ℕ) → i < length s.parts → AreDistinct (names_of_inputs (part_at s i).design)
  own_pairs i low = subst (λ (d : Named). AreDistinct (names_of_inputs d)) (same_design i low) (pairs_distinct s nets fit each i low)

  pub free_distinct : (i : ℕ) → i < length s.parts → AreDistinct (free_in i)
  free_distinct i low =
      let d = (part_at s i).design in
      still_distinct d kind.Input (is_input (world d)) (is_free s.wires (part_at s i) i)
      (λ x is. (and_parts (is_input (world d) x) (not (is_fed s.wires (endpoint i x))) is).0) 0 (world d).entities (own_pairs i low)

  pub pair_long : (i : ℕ) (z : Name) (x : ℕ) → (z ≡ value_name (name (part_at s i).design x)) ⊎ (z ≡ tag_name (name (part_at s i).design x)) → 2 ≤ length z
  pair_long i z x (inl e) = let l : 2 ≤ length (value_name (name (part_at s i).design x)) = omega arith in subst (λ (n : Name). 2 ≤ length n) (sym e) l
  pair_long i z x (inr e) = let l : 2 ≤ length (tag_name (name (part_at s i).design x)) = omega arith in subst (λ (n : Name). 2 ≤ length n) (sym e) l

  pub free_long : (i : ℕ) → i < length s.parts → (x : Name) → is_among x (free_in i) ≡ true → 2 ≤ length x
  free_long i low z h = let r = of_pair (part_at s i).design kind.Input (is_free s.wires (part_at s i) i) z 0 (world (part_at s i).design).entities h in pair_long i z r.0 r.2

  abbrev pub IsUnfed : Endpoint → Type 0
  IsUnfed e = not (is_fed s.wires e) ≡ true

  pub free_end : (z : Name) → is_among z free_there ≡ true → IsEnd s nets fit each IsUnfed z
  free_end z h =
      let b = of_among s free_in 0 s.parts (whole_list s) z h in
      let i = b.part in
      let r = of_pair (part_at s i).design kind.Input (is_free s.wires (part_at s i) i) b.name 0 (world (part_at s i).design).entities b.is in
      let two = and_parts (is_input (world (part_at s i).design) r.0) (not (is_fed s.wires (endpoint i r.0))) r.1 in
      let input : is_input (world (design_at s i)) r.0 ≡ true = subst (λ (d : Named). is_input (world d) r.0 ≡ true) (sym (same_design i b.low)) two.0 in
      elim r.2 [
        | inl e ↦ record {
          letter = byte "v";
          end = endpoint i r.0;
          is = record { low = b.low; input = input };
          holds = two.1;
          known = inl (inl refl);
          named = b.behind ∙ ap (in_part (part_at s i).name) e;
        }
        | inr e ↦ record {
          letter = byte "t";
          end = endpoint i r.0;
          is = record { low = b.low; input = input };
          holds = two.1;
          known = inl (inr refl);
          named = b.behind ∙ ap (in_part (part_at s i).name) e;
        }
      ]

  fed_more : (v : SystemWire) (ws some : List SystemWire) → AllByRecursion (λ w. is_fed ws w.to ≡ true) some → AllByRecursion (λ w. is_fed (v ∷ ws) w.to ≡ true) some
  fed_more v ws [] a = tt
  fed_more v ws (w ∷ some) a = (elim (cases_Bool (same_endpoint v.to w.to)) [ inl t ↦ rw t refl | inr q ↦ rw q a.0 ], fed_more v ws some a.1)

  same_self : (e : Endpoint) → same_endpoint e e ≡ true
  same_self e = grind arith

  pub each_fed : (ws : List SystemWire) → AllByRecursion (λ w. is_fed ws w.to ≡ true) ws
  each_fed [] = tt
  each_fed (w ∷ ws) = (rw (same_self w.to) refl, fed_more w ws ws (each_fed ws))

  pub to_fed : (ws : List SystemWire) → AllByRecursion (λ w. IsInput s nets fit each w.to) ws
      → AllByRecursion (λ w. is_fed s.wires w.to ≡ true) ws → AllTo s nets fit each (λ e. is_fed s.wires e ≡ true) ws
  to_fed [] a b = tt
  to_fed (w ∷ ws) a b = ((a.0, b.0), to_fed ws a.1 b.1)

  unfed_fed : (b : Bool) → not b ≡ true → b ≡ true → ⊥
  unfed_fed b h k = cc

  free_fed : (z : Name) → is_among z free_there ≡ true → is_among z fed ≡ true → ⊥
  free_fed z h k =
      let a = free_end z h in
      let b = of_feeds s nets fit each (λ e. is_fed s.wires e ≡ true) s.wires (to_fed s.wires (all_inputs s.wires good.each) (each_fed s.wires)) z k in
      let e = one_end s nets fit each IsUnfed (λ e. is_fed s.wires e ≡ true) z a b in
      unfed_fed (is_fed s.wires b.end) (subst (λ (f : Endpoint). not (is_fed s.wires f) ≡ true) e a.holds) b.holds

  module _ (ns : ℕ → List Name) (declared : (i : ℕ) → i < length s.parts → (x : Name) → is_among x (ns i) ≡ true → is_among x (nets i).names ≡ true)
      (others : (i : ℕ) → i < length s.parts → (x : Name) → is_among x (ns i) ≡ true → is_among x (input_names (nets i)) ≡ true → ⊥) where
    free_apart : (z : Name) → is_among z free_there ≡ true → is_among z (named_copies ns 0 s.parts) ≡ true → ⊥
    free_apart z h k =
        end_apart s nets fit each IsUnfed ns declared others (λ i low x is. long i low x (declared i low x is)) 0 z (free_end z h) (of_among s ns 0 s.parts (whole_list s) z k)

  with_inputs : AreDistinct (free_there ++ (fed ++ wires_there ++ registers_there ++ memories_there))
  with_inputs =
      distinct_both free_there (fed ++ wires_there ++ registers_there ++ memories_there)
      (copies_distinct s fit free_in free_long free_distinct 0 s.parts (whole_list s)) with_memories
      (λ z h. absent z (fed ++ wires_there ++ registers_there ++ memories_there) (λ k. elim (either (fed ++ wires_there ++ registers_there) memories_there z k) [
        | inl a ↦ elim (either (fed ++ wires_there) registers_there z a) [
          | inl b ↦ elim (either fed wires_there z b) [
            | inl f ↦ free_fed z h f
            | inr w ↦ free_apart wires_in wires_declared no_inputs_wires z h w
          ]
          | inr r ↦ free_apart registers_in registers_declared no_inputs_registers z h r
        ]
        | inr m ↦ free_apart memories_in memories_declared no_inputs_memories z h m
      ]))

pub all_names_differ : InputsInOrder → AllNamesDiffer
all_names_differ order s nets fit good each =
    let wires =
    map_both (λ (w : Wire). w.name) (feeds s s.wires) (copies_of (λ i. (nets i).wires) copy_wire 0 s.parts)
    ∙ ap (λ (ns : List Name). names_of (feeds s s.wires) ++ ns) (copies_named (λ i. (nets i).wires) copy_wire (λ (w : Wire). w.name) (λ f w. refl) 0 s.parts)
    in
    let registers = copies_named (λ i. (nets i).registers) copy_register (λ (r : Register). r.name) (λ f r. refl) 0 s.parts in
    let memories = copies_named (λ i. (nets i).memories) copy_memory (λ (m : Memory). m.name) (λ f m. refl) 0 s.parts in
    let inner = ap₂ (λ (xs ys : List Name). xs ++ ys) (ap₂ (λ (xs ys : List Name). xs ++ ys) wires registers) memories in
    let inputs = inputs_there s nets fit good each order in
    subst (λ (ns : List Name). AreDistinct ns) (sym (ap₂ (λ (xs ys : List Name). xs ++ ys) inputs inner)) (with_inputs s nets fit good each)
