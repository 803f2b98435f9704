-- A netlist that declares alike starts as the system does.
use Rattle.sap_lemmas.proofs.Common.{◌≡◌, ℕ, false, [], map, Option, Some, refl, sym, ◌∙◌, ap, unwrap_or, AllByRecursion, all_follow}
use Rattle.sap_maps.specs.Prelude.{Name, find}
use Rattle.sap_lattice.specs.Codes.{width_of}
use Rattle.sap_meaning.specs.State.{first}
use Rattle.sap_net.specs.Prelude.{is_among, Net, register_names, shapes, IsNetlist, AreSame, initial, initial_cell, initial_number}
use Rattle.sap_net.specs.declared.parts.Input.{Input}
use Rattle.sap_net.specs.declared.parts.Wire.{Wire}
use Rattle.sap_net.specs.declared.parts.Register.{Register}
use Rattle.sap_net.specs.declared.parts.Memory.{Memory}
use Rattle.sap_net.proofs.NamesLemmas.{not_found}
use Rattle.sap_interface.specs.StandsFor.{world, StandsFor}
use Rattle.sap_build.specs.Copies.{copy_memory, copy_register, copy_wire, through}
use Rattle.sap_build.specs.Parts.{Feeds, IsPart}
use Rattle.sap_build.proofs.Inside.{each_found, of_readable, of_shapes}
use Rattle.sap_trim.specs.Alike.{DeclaresAlike}
use Rattle.sap_linked.specs.Prelude.{NamedSystem, part_at, in_part, IsNetOf, linked_net}
use Rattle.sap_linked.proofs.Alike.{stands_behind}
use Rattle.sap_linked.proofs.Declared.{found_of}
use Rattle.sap_linked.proofs.Own.{both, inputs_apart, memories_own, registers_own, wires_feed}
use Rattle.sap_linked_small.proofs.Entries.{same_cell, same_number}

-- what is no register starts with 0
no_start : (n : Net) (x : Name) → is_among x (register_names n) ≡ false → initial_number n x ≡ 0
no_start n x h = ap (λ (o : Option ℕ). unwrap_or o 0) (not_found (λ (r : Register). r.name) (λ r. r.start) n.registers x h)

register_start : (n : Net) (x : Name) (r : Register) → find (map (λ (r : Register). (r.name, r)) n.registers) x ≡ Some r → initial_number n x ≡ r.start
register_start n x r h = ap (λ (o : Option ℕ). unwrap_or o 0) (found_of (λ (r : Register). r.name) (λ r. r.start) n.registers x r h)

memory_start : (n : Net) (x : Name) (m : Memory) → find (map (λ (m : Memory). (m.name, m)) n.memories) x ≡ Some m → initial_cell n x ≡ m.start
memory_start n x m h = ap (λ (o : Option ℕ). unwrap_or o 0) (found_of (λ (m : Memory). m.name) (λ m. m.start) n.memories x m h)

module _ (s : NamedSystem) (nets : ℕ → Net) (small : Net) (before : IsNetlist (linked_net s nets)) (alike : DeclaresAlike (linked_net s nets) small) (i : ℕ)
    (net : IsNetOf s.order (part_at s i) (nets i)) (part : IsPart (in_part (part_at s i).name) (nets i) (linked_net s nets)) where
  abbrev given : Net
  given = linked_net s nets

  abbrev n : Net
  n = nets i

  abbrev f : Name → Name
  f = in_part (part_at s i).name

  abbrev StartsAlike : Name → Type 0
  StartsAlike x = initial_number n x ≡ initial_number small (f x)

  neither : (x : Name) → is_among x (register_names n) ≡ false → is_among (f x) (register_names given) ≡ false → StartsAlike x
  neither x h k = no_start n x h ∙ sym (same_number given small alike (f x) ∙ no_start given (f x) k)

  inputs_start : AllByRecursion (λ (input : Input). StartsAlike input.name) n.inputs
  inputs_start =
      both (λ (input : Input). is_among input.name (register_names n) ≡ false) (λ input. Feeds given (f input.name) input.width) (λ input. StartsAlike input.name) n.inputs
      (λ input h fed. neither input.name h fed.unclocked) (inputs_apart (shapes n) n.inputs n.registers net.netlist.values) part.fed

  wires_start : AllByRecursion (λ (w : Wire). StartsAlike w.name) n.wires
  wires_start =
      both (λ (w : Wire). Feeds n w.name w.width) (λ w. is_among (f w.name) (register_names given) ≡ false) (λ w. StartsAlike w.name) n.wires
      (λ w own there. neither w.name own.unclocked there) (wires_feed n net.netlist)
      (each_found (λ (w : Wire). w.name) (λ (w : Wire). f w.name) (copy_wire f) (λ w. is_among w.name (register_names given) ≡ false) given.wires n.wires
      (all_follow (λ (w : Wire). Feeds given w.name w.width) (λ w. is_among w.name (register_names given) ≡ false) given.wires
      (λ w h. h.unclocked) (wires_feed given before)) part.wires)

  registers_start : AllByRecursion (λ (r : Register). StartsAlike r.name) n.registers
  registers_start =
      both (λ (r : Register). find (map (λ (r : Register). (r.name, r)) n.registers) r.name ≡ Some r)
      (λ r. find (map (λ (r : Register). (r.name, r)) given.registers) (f r.name) ≡ Some (copy_register f r)) (λ r. StartsAlike r.name) n.registers
      (λ r own there. register_start n r.name r own ∙ sym (same_number given small alike (f r.name) ∙ register_start given (f r.name) (copy_register f r) there))
      (registers_own n net.netlist) part.registers

  memories_start : AllByRecursion (λ (m : Memory). initial_cell n m.name ≡ initial_cell small (f m.name)) n.memories
  memories_start =
      both (λ (m : Memory). find (map (λ (m : Memory). (m.name, m)) n.memories) m.name ≡ Some m)
      (λ m. find (map (λ (m : Memory). (m.name, m)) given.memories) (f m.name) ≡ Some (copy_memory f m)) (λ m. initial_cell n m.name ≡ initial_cell small (f m.name)) n.memories
      (λ m own there. memory_start n m.name m own ∙ sym (same_cell given small alike (f m.name) ∙ memory_start given (f m.name) (copy_memory f m) there))
      (memories_own n net.netlist) part.memories

  same_start : AreSame n (initial n) (through f (initial small))
  same_start =
      record {
        value = of_readable (λ x u. StartsAlike x) n inputs_start registers_start wires_start;
        cell = λ x t h j. of_shapes (λ x t. initial_cell n x ≡ initial_cell small (f x)) n memories_start x t h;
      }

  pub small_starts : StandsFor (part_at s i).design (part_at s i).sites (through f (initial small)) (first (world (part_at s i).design)) []
  small_starts =
      stands_behind (part_at s i).design (width_of s.order) (part_at s i).sites n net.netlist net.stands.interface.declares.part f f (λ x is. refl)
      (initial n) (initial small) same_start (first (world (part_at s i).design)) [] net.starts
