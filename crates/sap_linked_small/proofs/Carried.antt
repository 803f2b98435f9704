-- A netlist that declares alike declares the interface of the system.
use Rattle.sap_lemmas.proofs.Common.{◌≡◌, ◌⊎◌, ◌<◌, ℕ, true, not, List, ◌++◌, map, length, take, Some, refl, sym, ◌∙◌, ap, subst, inl, inr, arith, unwrap_or, Option, AllByRecursion, and_from, and_parts, cases_Bool, all_append, all_of_map, map_of_all}
use Rattle.sap_maps.specs.Prelude.{Name, Scope, find}
use Rattle.sap_meaning.specs.Program.{is_input, is_register}
use Rattle.sap_net.specs.declared.parts.PortKind.TheVariants as kind
use Rattle.sap_net.specs.Prelude.{is_among, IsHelpingName, Net, Shapes, input_names, memory_names, names_of, register_names, wire_names, IsNetlist, PortShows, width_of as width_in, value_name, tag_name, refused_name, refused_level_name}
use Rattle.sap_net.specs.declared.parts.Port.{Port}
use Rattle.sap_net.specs.declared.parts.Input.{Input}
use Rattle.sap_net.specs.declared.parts.Wire.{Wire}
use Rattle.sap_net.specs.declared.parts.Register.{Register}
use Rattle.sap_net.specs.declared.parts.Memory.{Memory}
use Rattle.sap_net.proofs.NamesLemmas.{among_each, each_among, filter_among, found_of}
use Rattle.sap_interface.specs.Prelude.{name, world, Shown, declared_by, HasSeat, IsInterfaceName, value_of, tag_of, refusal_of, level_of}
use Rattle.sap_trim.specs.Alike.{DeclaresAlike}
use Rattle.sap_trim.specs.Names.{helping_wires, port_names}
use Rattle.sap_trim.specs.Trimmed.{NamesWires}
use Rattle.sap_link.specs.Systems.{endpoint, is_fed}
use Rattle.sap_linked.specs.Prelude.{NamedSystem, part_at, in_part, fed_inputs, input_ports, is_fed_input, is_free, linked_ports, refusal_ports, register_ports, DeclaresLinkedPart, DeclaresSystem, HasLinkedInterface, IsPartName, held_ports, linked_net, without_fed}
use Rattle.sap_linked.proofs.Alike.{input_holds, register_holds}
use Rattle.sap_linked.proofs.Families.{whole_list}
use Rattle.sap_linked.proofs.Order.{inputs_in_order}
use Rattle.sap_linked.proofs.Own.{both}
use Rattle.sap_linked.proofs.Parted.{either, filter_named}
use Rattle.sap_linked.proofs.Ports.{block_each, fed_are, fed_of, free_of, inputs_are, names_in, pairs_each, refusals_are, registers_are, registers_of, sites_each, sites_of}
use Rattle.sap_linked.proofs.Reading.{wire_read}
use Rattle.sap_linked_small.proofs.Entries.{same_memories, same_memory_names, same_register_names, same_registers}
use Rattle.sap_linked_small.proofs.Fewer.{port_of}
use Rattle.sap_linked_small.proofs.Held.{at_fed, at_site}

-- ---- ports have names of parts

module _ (s : NamedSystem) where
  named_in : (i : ℕ) → i < length s.parts → (x : Name) → IsInterfaceName (part_at s i).design (part_at s i).sites x → IsPartName s (in_part (part_at s i).name x)
  named_in i low x is = record { part = i; is_part = low; name = x; interface = is; behind = refl }

  abbrev HasName : Shown → Type 0
  HasName p = IsPartName s p.0

  free_named : AllByRecursion HasName (input_ports s.wires 0 s.parts)
  free_named =
      subst (λ (xs : List Shown). AllByRecursion HasName xs) (sym (inputs_are s.wires 0 s.parts))
      (block_each s (free_of s.wires) HasName (λ i low.
      let d = (part_at s i).design in
      pairs_each (λ (p : Shown). HasName (in_part (part_at s i).name p.0, p.1)) (is_free s.wires (part_at s i) i) kind.Input d (λ x is.
      let holds = input_holds d x (and_parts (is_input (world d) x) (not (is_fed s.wires (endpoint i x))) is).0 in
      (named_in i low (value_name (name d x)) (value_of x holds), named_in i low (tag_name (name d x)) (tag_of x holds))) 0 (world d).entities) 0 s.parts (whole_list s))

  registers_named : AllByRecursion HasName (register_ports s.parts)
  registers_named =
      subst (λ (xs : List Shown). AllByRecursion HasName xs) (sym (registers_are 0 s.parts))
      (block_each s registers_of HasName (λ i low.
      let d = (part_at s i).design in
      pairs_each (λ (p : Shown). HasName (in_part (part_at s i).name p.0, p.1)) (is_register (world d)) kind.Register d (λ x is.
      let holds = register_holds d x is in
      (named_in i low (value_name (name d x)) (value_of x holds), named_in i low (tag_name (name d x)) (tag_of x holds))) 0 (world d).entities) 0 s.parts (whole_list s))

  sites_named : AllByRecursion HasName (refusal_ports s.parts)
  sites_named =
      subst (λ (xs : List Shown). AllByRecursion HasName xs) (sym (refusals_are 0 s.parts))
      (block_each s sites_of HasName (λ i low.
      sites_each (λ (p : Shown). HasName (in_part (part_at s i).name p.0, p.1)) (part_at s i).sites (λ j from to.
      (named_in i low (refused_name j) (refusal_of j from to), named_in i low (refused_level_name j) (level_of j from to))) 1
      (part_at s i).sites (omega arith) (omega arith)) 0 s.parts (whole_list s))

  fed_named : AllByRecursion HasName (fed_inputs s.wires 0 s.parts)
  fed_named =
      subst (λ (xs : List Shown). AllByRecursion HasName xs) (sym (fed_are s.wires 0 s.parts))
      (block_each s (fed_of s.wires) HasName (λ i low.
      let d = (part_at s i).design in
      pairs_each (λ (p : Shown). HasName (in_part (part_at s i).name p.0, p.1)) (is_fed_input s.wires (part_at s i) i) kind.Wire d (λ x is.
      let holds = input_holds d x (and_parts (is_input (world d) x) (is_fed s.wires (endpoint i x)) is).0 in
      (named_in i low (value_name (name d x)) (value_of x holds), named_in i low (tag_name (name d x)) (tag_of x holds))) 0 (world d).entities) 0 s.parts (whole_list s))

  held_named : AllByRecursion HasName (held_ports s)
  held_named =
      all_append HasName (linked_ports s) (fed_inputs s.wires 0 s.parts)
      (all_append HasName (input_ports s.wires 0 s.parts ++ register_ports s.parts) (refusal_ports s.parts)
      (all_append HasName (input_ports s.wires 0 s.parts) (register_ports s.parts) free_named registers_named) sites_named) fed_named

module _ (s : NamedSystem) (nets : ℕ → Net) (small : Net) (before : IsNetlist (linked_net s nets)) (after : IsNetlist small) (alike : DeclaresAlike (linked_net s nets) small)
    (declares : DeclaresSystem s (without_fed s (linked_net s nets))) where
  abbrev given : Net
  given = linked_net s nets

  -- ---- what is found under a name

  abbrev Shows : Shown → Type 0
  Shows p = PortShows small p.1 p.0 × (width_in small p.0 ≡ width_in given p.0)

  shows : AllByRecursion Shows (held_ports s)
  shows =
      both (λ (p : Shown). PortShows small p.1 p.0) (λ p. width_in small p.0 ≡ width_in given p.0) Shows (held_ports s) (λ p a b. (a, b))
      (all_of_map (λ (p : Port). PortShows small p.kind p.name) port_of (held_ports s)
      (subst (λ (ps : List Port). AllByRecursion (λ (p : Port). PortShows small p.kind p.name) ps) alike.ports after.ports_show))
      (all_of_map (λ (p : Port). width_in small p.name ≡ width_in given p.name) port_of (held_ports s) alike.widths)

  wire_width : (n : Net) → IsNetlist n → (x : Name) (u : ℕ) → find (declared_by n).wires x ≡ Some u → width_in n x ≡ u
  wire_width n rules x u h = ap (λ (o : Option ℕ). unwrap_or o 0) (wire_read n rules x u h)

  wire_there : (x : Name) (u : ℕ) → Shows (x, kind.Wire) → find (declared_by given).wires x ≡ Some u → find (declared_by small).wires x ≡ Some u
  wire_there x u both h =
      let w = found_of (λ (y : Wire). y.name) (λ (y : Wire). y.width) small.wires x both.0 in
      let e : w.0 ≡ u = sym (wire_width small after x w.0 w.1) ∙ both.1 ∙ wire_width given before x u h in
      w.1 ∙ ap (λ (k : ℕ). Some k) e

  register_there : (x : Name) (u : ℕ) → find (declared_by given).registers x ≡ Some u → find (declared_by small).registers x ≡ Some u
  register_there x u h = ap (λ (sc : Scope). find sc x) (same_registers given small alike) ∙ h

  memory_there : (x : Name) (t : ℕ × ℕ) → find (declared_by given).memories x ≡ Some t → find (declared_by small).memories x ≡ Some t
  memory_there x t h = ap (λ (ms : Shapes). find ms x) (same_memories given small alike) ∙ h

  input_there : (x : Name) (u : ℕ) → find (declared_by given).inputs x ≡ Some u → find (declared_by small).inputs x ≡ Some u
  input_there x u h = ap (λ (is : List Input). find (map {B = Name × ℕ} (λ (i : Input). (i.name, i.width)) is) x) alike.inputs ∙ h

  seat_there : (count : ℕ) (x : Name) → HasSeat (declared_by given).registers count x → HasSeat (declared_by small).registers count x
  seat_there count x h = (h.0, h.1, register_there x h.0 h.2)

  part_there : (i : ℕ) → i < length s.parts → DeclaresLinkedPart s i (part_at s i) (declared_by (without_fed s small))
  part_there i low =
      let h = declares.parts i low in
      record {
        inputs = λ x is. (input_there _ _ (h.inputs x is).0, input_there _ _ (h.inputs x is).1);
        fed_wires = λ x is fed.
            let p = at_fed s Shows shows i low x is fed in
            (wire_there _ _ p.0 (h.fed_wires x is fed).0, wire_there _ _ p.1 (h.fed_wires x is fed).1);
        rest = record {
          registers = λ x is. (register_there _ _ (h.rest.registers x is).0, register_there _ _ (h.rest.registers x is).1);
          site_wires = λ j from to.
              let p = at_site s Shows shows i low j from to in
              (wire_there _ _ p.0 (h.rest.site_wires j from to).0, wire_there _ _ p.1 (h.rest.site_wires j from to).1);
          memories = λ m is. memory_there _ _ (h.rest.memories m is);
          cell_tags = λ m is enforced. memory_there _ _ (h.rest.cell_tags m is enforced);
          memory_tags = λ m is dynamic. register_there _ _ (h.rest.memory_tags m is dynamic);
          state_tags = λ x is low. register_there _ _ (h.rest.state_tags x is low);
          seats = λ p low some. seat_there _ _ (h.rest.seats p low some);
          root_seat = seat_there _ _ h.rest.root_seat;
        };
      }

  -- ---- names

  registers_are_named : AllByRecursion (λ x. IsPartName s x) (register_names small)
  registers_are_named =
      subst (λ (ns : List Name). AllByRecursion (λ x. IsPartName s x) ns) (sym (same_register_names given small alike))
      (map_of_all (λ x. IsPartName s x) (λ (r : Register). r.name) given.registers declares.register_names)

  memories_are_named : AllByRecursion (λ x. IsPartName s x) (memory_names small)
  memories_are_named =
      subst (λ (ns : List Name). AllByRecursion (λ x. IsPartName s x) ns) (sym (same_memory_names given small alike))
      (map_of_all (λ x. IsPartName s x) (λ (m : Memory). m.name) given.memories declares.memory_names)

  small_declares : DeclaresSystem s (without_fed s small)
  small_declares =
      record {
        module_name = alike.module_name;
        ports = ap (λ (ps : List Port). map {B = Shown} (λ (p : Port). (p.name, p.kind)) (take (length (linked_ports s)) ps)) alike.ports ∙ declares.ports;
        parts = part_there;
        register_names = all_of_map (λ x. IsPartName s x) (λ (r : Register). r.name) small.registers registers_are_named;
        memory_names = all_of_map (λ x. IsPartName s x) (λ (m : Memory). m.name) small.memories memories_are_named;
      }

  input_named : (x : Name) → is_among x (input_names small) ≡ true → IsPartName s x
  input_named x h =
      among_each (λ x. IsPartName s x) (names_in (input_ports s.wires 0 s.parts))
      (map_of_all (λ x. IsPartName s x) (λ (p : Shown). p.0) (input_ports s.wires 0 s.parts) (free_named s)) x
      (sym (ap (is_among x) (ap (λ (is : List Input). map (λ (i : Input). i.name) is) alike.inputs ∙ inputs_in_order s)) ∙ h)

  port_named : (x : Name) → is_among x (port_names small) ≡ true → IsPartName s x
  port_named =
      among_each (λ x. IsPartName s x) (port_names small)
      (map_of_all (λ x. IsPartName s x) (λ (p : Port). p.name) small.ports
      (subst (λ (ps : List Port). AllByRecursion (λ (p : Port). IsPartName s p.name) ps) (sym alike.ports)
      (map_of_all (λ (p : Port). IsPartName s p.name) port_of (held_ports s) (held_named s))))

  module _ (helping : NamesWires small) where
    abbrev IsKnown : Name → Type 0
    IsKnown x = IsPartName s x ⊎ IsHelpingName x

    wire_named : (x : Name) → is_among x (wire_names small) ≡ true → IsKnown x
    wire_named x h = elim (cases_Bool (is_among x (port_names small))) [
      | inl t ↦ inl (port_named x t)
      | inr q ↦
          let other = λ (y : Name). not (is_among y (port_names small)) in
          inr (among_each (λ y. IsHelpingName y) (names_of (helping_wires small)) (map_of_all (λ y. IsHelpingName y) (λ (w : Wire). w.name) (helping_wires small) helping) x
          (ap (is_among x) (filter_named (λ (w : Wire). w.name) other small.wires) ∙ filter_among other (wire_names small) x
          ∙ and_from (is_among x (wire_names small)) (other x) h (rw q refl)))
    ]

    known : (x : Name) → is_among x small.names ≡ true → IsKnown x
    known x h = elim (either (input_names small ++ wire_names small ++ register_names small) (memory_names small) x (sym (after.declared x) ∙ h)) [
      | inl a ↦ elim (either (input_names small ++ wire_names small) (register_names small) x a) [
        | inl b ↦ elim (either (input_names small) (wire_names small) x b) [ inl i ↦ inl (input_named x i) | inr w ↦ wire_named x w ]
        | inr r ↦ inl (among_each (λ x. IsPartName s x) (register_names small) registers_are_named x r)
      ]
      | inr m ↦ inl (among_each (λ x. IsPartName s x) (memory_names small) memories_are_named x m)
    ]

    pub small_interface : HasLinkedInterface s (without_fed s small)
    small_interface = record { declares = small_declares; names = each_among (λ x. IsPartName s x ⊎ IsHelpingName x) small.names known }
