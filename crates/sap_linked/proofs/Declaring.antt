-- The netlist of a system declares the system's interface.
use Rattle.sap_lemmas.proofs.Common.{◌≡◌, ℕ, ◌<◌, not, List, [], ◌∷◌, ◌++◌, map, filter, length, take, Some, refl, sym, ap, subst, AllByRecursion, and_parts, all_append, all_filter, all_follow, all_of_map, all_parts}
use Rattle.sap_maps.specs.Prelude.{Name, find}
use Rattle.sap_lattice.specs.Codes.{width_of}
use Rattle.sap_meaning.specs.Program.{is_input}
use Rattle.sap_net.specs.Prelude.{is_among, Net, IsNetlist}
use Rattle.sap_net.specs.declared.parts.Port.{Port}
use Rattle.sap_net.specs.declared.parts.Wire.{Wire}
use Rattle.sap_net.specs.declared.parts.Register.{Register}
use Rattle.sap_net.specs.declared.parts.Memory.{Memory}
use Rattle.sap_interface.specs.Prelude.{Named, world, Shown, declared_by, DeclaresPart, HasInterface, IsInterfaceName}
use Rattle.sap_build.specs.Copies.{copy_wire, copy_register, copy_memory}
use Rattle.sap_link.specs.Systems.{endpoint, System, is_fed, free_inputs}
use Rattle.sap_linked.specs.Prelude.{Part, NamedSystem, part_at, system_of, in_part, IsNetOf, linked_ports, fed_inputs, IsPartName, DeclaresLinkedPart, DeclaresSystem, feeds, copies_of, shown_names, linked_net, without_fed, LinkedNetDeclares}
use Rattle.sap_linked.proofs.Own.{inputs_found, wires_own}
use Rattle.sap_linked.proofs.Fed.{of_free, of_fed}
use Rattle.sap_linked.proofs.EachInput.{free_ends, fed_ends, AtEnd}
use Rattle.sap_linked.proofs.Linked.{design_at, design_is}
use Rattle.sap_linked.proofs.SideBySide.{to_all, linked_net_links}
use Rattle.sap_linked.proofs.Declared.{found_of, parts_declare}

-- of the ports in front
ports_are : (shown more : List Shown) → map (λ (p : Port). (p.name, p.kind))
    (take (length shown) (map (λ (port : Shown). record { name = port.0; kind = port.1 }) (shown ++ more))) ≡ shown
ports_are [] more = refl
ports_are (p ∷ ps) more = ap (λ (rest : List Shown). p ∷ rest) (ports_are ps more)

module _ (s : NamedSystem) (nets : ℕ → Net) (each : (i : ℕ) → i < length s.parts → IsNetOf s.order (part_at s i) (nets i)) (rules : IsNetlist (linked_net s nets)) where
  abbrev whole : Net
  whole = linked_net s nets

  abbrev y : System
  y = system_of s

  abbrev FoundInput : Name → ℕ → Type 0
  FoundInput x u = find (declared_by whole).inputs x ≡ Some u

  abbrev FoundWire : Name → ℕ → Type 0
  FoundWire x u = find (declared_by whole).wires x ≡ Some u

  wires_found : AllByRecursion (λ (w : Wire). find (declared_by whole).wires w.name ≡ Some w.width) whole.wires
  wires_found =
      all_follow (λ (w : Wire). find (map (λ (w : Wire). (w.name, w)) whole.wires) w.name ≡ Some w) (λ w. find (declared_by whole).wires w.name ≡ Some w.width) whole.wires
      (λ w h. found_of (λ (w : Wire). w.name) (λ w. w.width) whole.wires w.name w h) (wires_own whole rules)

  of_wires : AllByRecursion (λ w. AtEnd s FoundWire w.to) s.wires
  of_wires = fed_ends s FoundWire s.wires (all_parts (λ (x : Wire). FoundWire x.name x.width) (feeds s s.wires) (copies_of (λ i. (nets i).wires) copy_wire 0 s.parts) wires_found).0

  module _ (i : ℕ) (low : i < length s.parts) where
    abbrev d : Named
    d = design_at s i

    abbrev this : Part
    this = record { name = (part_at s i).name; design = d; sites = (part_at s i).sites }

    same_part : this ≡ part_at s i
    same_part = ap (λ (d : Named). record { name = (part_at s i).name; design = d; sites = (part_at s i).sites }) (design_is s i (each i low).codes)

    interface : HasInterface (part_at s i).design (width_of s.order) (part_at s i).sites (nets i)
    interface = (each i low).stands.interface

    own_interface : HasInterface d (width_of s.order) (part_at s i).sites (nets i)
    own_interface = subst (λ (d : Named). HasInterface d (width_of s.order) (part_at s i).sites (nets i)) (sym (design_is s i (each i low).codes)) interface

    declares_rest : DeclaresPart (in_part (part_at s i).name) d (width_of s.order) (part_at s i).sites (declared_by whole)
    declares_rest =
        parts_declare (in_part (part_at s i).name) (in_part (part_at s i).name) d (width_of s.order) (part_at s i).sites (nets i) whole
        ((linked_net_links s nets each rules).parts i low) own_interface.declares.part (λ x is. refl)

    -- and so without the ports of what feeds
    declares_this : DeclaresLinkedPart s i this (declared_by (without_fed s whole))
    declares_this =
        record {
          inputs = λ x is.
              let two = and_parts (is_input (world d) x) (not (is_fed s.wires (endpoint i x))) is in
              of_free y (AtEnd s FoundInput) (free_ends s FoundInput (free_inputs y) (inputs_found whole rules)) i x two.0 two.1;
          fed_wires = λ x is fed. of_fed s.wires (AtEnd s FoundWire) of_wires (endpoint i x) fed;
          rest = record {
            registers = declares_rest.registers;
            site_wires = declares_rest.site_wires;
            memories = declares_rest.memories;
            cell_tags = declares_rest.cell_tags;
            memory_tags = declares_rest.memory_tags;
            state_tags = declares_rest.state_tags;
            seats = declares_rest.seats;
            root_seat = declares_rest.root_seat;
          };
        }

    declares_part : DeclaresLinkedPart s i (part_at s i) (declared_by (without_fed s whole))
    declares_part = subst (λ (p : Part). DeclaresLinkedPart s i p (declared_by (without_fed s whole))) same_part declares_this

    part_name : (x : Name) → IsInterfaceName (part_at s i).design (part_at s i).sites x → IsPartName s (in_part (part_at s i).name x)
    part_name x is = record { part = i; is_part = low; name = x; interface = is; behind = refl }

    registers_named : AllByRecursion (λ (r : Register). IsPartName s (in_part (part_at s i).name r.name)) (nets i).registers
    registers_named =
        all_follow (λ (r : Register). IsInterfaceName (part_at s i).design (part_at s i).sites r.name)
        (λ r. IsPartName s (in_part (part_at s i).name r.name)) (nets i).registers (λ r is. part_name r.name is)
        (all_of_map {X = Register} {Y = Name × ℕ} (λ e. IsInterfaceName (part_at s i).design (part_at s i).sites e.0)
        (λ r. (r.name, r.width)) (nets i).registers interface.declares.register_names)

    memories_named : AllByRecursion (λ (m : Memory). IsPartName s (in_part (part_at s i).name m.name)) (nets i).memories
    memories_named =
        all_follow (λ (m : Memory). IsInterfaceName (part_at s i).design (part_at s i).sites m.name)
        (λ m. IsPartName s (in_part (part_at s i).name m.name)) (nets i).memories (λ m is. part_name m.name is)
        (all_of_map {X = Memory} {Y = Name × (ℕ × ℕ)} (λ e. IsInterfaceName (part_at s i).design (part_at s i).sites e.0)
        (λ m. (m.name, (m.width, m.depth))) (nets i).memories interface.declares.memory_names)

  all_registers : AllByRecursion (λ (r : Register). IsPartName s r.name) (copies_of (λ i. (nets i).registers) copy_register 0 s.parts)
  all_registers = to_all (λ i. (nets i).registers) copy_register (λ (r : Register). IsPartName s r.name) s (λ i low. registers_named i low)

  all_memories : AllByRecursion (λ (m : Memory). IsPartName s m.name) (copies_of (λ i. (nets i).memories) copy_memory 0 s.parts)
  all_memories = to_all (λ i. (nets i).memories) copy_memory (λ (m : Memory). IsPartName s m.name) s (λ i low. memories_named i low)

  declares : DeclaresSystem s (without_fed s whole)
  declares =
      let all = copies_of (λ i. (nets i).registers) copy_register 0 s.parts in
      let shown = λ (r : Register). is_among r.name (shown_names s) in
      record {
        module_name = refl;
        ports = ports_are (linked_ports s) (fed_inputs s.wires 0 s.parts);
        parts = λ i low. declares_part i low;
        register_names = all_append (λ (r : Register). IsPartName s r.name) (filter shown all) (filter (λ r. not (shown r)) all)
            (all_filter (λ (r : Register). IsPartName s r.name) shown all all_registers)
            (all_filter (λ (r : Register). IsPartName s r.name) (λ r. not (shown r)) all all_registers);
        memory_names = all_memories;
      }

pub linked_net_declares : LinkedNetDeclares
linked_net_declares s nets each rules = declares s nets each rules
