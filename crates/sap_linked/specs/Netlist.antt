-- The netlist of a system: the netlists of all parts side by side, each name behind its part's, and in front of them
-- the wires that feed.
use Rattle.std.specs.Prelude.{ℕ, suc, not, List, [], ◌∷◌, ◌++◌, length, take, map, filter, Option, Some, None, codes}
use Rattle.sap_bits.specs.declared.Op2.TheVariants.{Or, Eq}
use Rattle.sap_maps.specs.Maps.{Name}
use Rattle.sap_lattice.specs.Codes.{code_of, width_of}
use Rattle.sap_net.specs.declared.parts.Operand.TheVariants.{Named, Constant}
use Rattle.sap_net.specs.declared.parts.Right.{Right}
use Rattle.sap_net.specs.declared.parts.Right.TheVariants.{Copy, Two, Choose}
use Rattle.sap_net.specs.declared.parts.Port.{Port}
use Rattle.sap_net.specs.declared.parts.Wire.{Wire}
use Rattle.sap_net.specs.declared.parts.Register.{Register}
use Rattle.sap_net.specs.declared.parts.Memory.{Memory}
use Rattle.sap_net.specs.Names.{is_among}
use Rattle.sap_net.specs.Net.{Net}
use Rattle.sap_net.specs.PortNames.{top_name}
use Rattle.sap_interface.specs.StandsFor.{name}
use Rattle.sap_interface.specs.Interface.{Shown}
use Rattle.sap_build.specs.Copies.{copy_wire, copy_register, copy_memory}
use Rattle.sap_link.specs.Systems.{Endpoint, width_at, free_inputs}
use Rattle.sap_link.specs.Systems.{Wire as SystemWire}
use Rattle.sap_linked.specs.Parts.{Part, NamedSystem, part_at, system_of, in_part, value_at, tag_at}
use Rattle.sap_linked.specs.Linking.{inputs_for}
use Rattle.sap_linked.specs.Interface.{fed_inputs, linked_ports}

-- For an input that is fed through a level: the join of the register's code with that of the level, and whether that is
-- the code of the level.
abbrev pub joined_at : NamedSystem → Endpoint → Name
joined_at s e = let p = part_at s e.part in in_part p.name (codes "j_" ++ name p.design e.entity)

-- The helping wire that tells whether the wire to an endpoint lets through.
abbrev pub below_at : NamedSystem → Endpoint → Name
below_at s e = let p = part_at s e.part in in_part p.name (codes "b_" ++ name p.design e.entity)

-- A wire with its right side.
abbrev pub assign : Name → (width : ℕ) → Right → Wire
assign x u right = record { name = x; width = u; right = right }

-- What feeds the input to which a wire leads, through no level or one.
abbrev pub feeds_through : NamedSystem → SystemWire → Option ℕ → List Wire
feeds_through s w None =
    assign (value_at s w.to) (width_at (system_of s) w.to) (Copy (Named (value_at s w.from)))
    ∷ assign (tag_at s w.to) (width_of s.order) (Copy (Named (tag_at s w.from)))
    ∷ []
feeds_through s w (Some l) =
    let u = width_of s.order in
    let width = width_at (system_of s) w.to in
    let code = Constant u (code_of s.order l) in
    assign (joined_at s w.to) u (Two Or (Named (tag_at s w.from)) code)
    ∷ assign (below_at s w.to) 1 (Two Eq (Named (joined_at s w.to)) code)
    ∷ assign (value_at s w.to) width (Choose (Named (below_at s w.to)) (Named (value_at s w.from)) (Constant width 0))
    ∷ assign (tag_at s w.to) u (Copy code)
    ∷ []

-- The wires in place of fed inputs.
abbrev pub feeds : NamedSystem → List SystemWire → List Wire
feeds s [] = []
feeds s (w ∷ ws) = feeds_through s w w.level ++ feeds s ws

-- What each part's netlist has, behind the part's name; i is the number of the first.
abbrev pub copies_of : {X : Type 0} → (items : ℕ → List X) → (copy : (Name → Name) → X → X) → (i : ℕ)
    → List Part → List X
copies_of items copy i [] = []
copies_of items copy i (p ∷ ps) = map (copy (in_part p.name)) (items i) ++ copies_of items copy (suc i) ps

-- What feeds inputs is shown too, behind the ports, so that it keeps its names when the netlist is made small;
-- `without_fed` takes it off.
abbrev pub held_ports : NamedSystem → List Shown
held_ports s = linked_ports s ++ fed_inputs s.wires 0 s.parts

-- The names of the ports.
abbrev pub shown_names : NamedSystem → List Name
shown_names s = map (λ (port : Shown). port.0) (held_ports s)

-- The names of all wires, registers and memories.
abbrev pub inner_names : NamedSystem → (nets : ℕ → Net) → List Name
inner_names s nets =
    map (λ (w : Wire). w.name) (feeds s s.wires ++ copies_of (λ i. (nets i).wires) copy_wire 0 s.parts)
    ++ map (λ (r : Register). r.name) (copies_of (λ i. (nets i).registers) copy_register 0 s.parts)
    ++ map (λ (m : Memory). m.name) (copies_of (λ i. (nets i).memories) copy_memory 0 s.parts)

-- Wires that feed stand first: they read nothing but registers. Names and registers that ports show stand in front of
-- the others.
abbrev pub linked_net : NamedSystem → (nets : ℕ → Net) → Net
linked_net s nets =
    let wires = feeds s s.wires ++ copies_of (λ i. (nets i).wires) copy_wire 0 s.parts in
    let registers = copies_of (λ i. (nets i).registers) copy_register 0 s.parts in
    let memories = copies_of (λ i. (nets i).memories) copy_memory 0 s.parts in
    record {
      module_name = top_name;
      names =
          shown_names s
          ++ filter (λ x. not (is_among x (shown_names s))) (inner_names s nets);
      ports = map {B = Port} (λ (port : Shown). record { name = port.0; kind = port.1 }) (held_ports s);
      inputs = inputs_for s (free_inputs (system_of s));
      wires = wires;
      registers =
          filter (λ (r : Register). is_among r.name (shown_names s)) registers
          ++ filter (λ (r : Register). not (is_among r.name (shown_names s))) registers;
      memories = memories;
    }

-- The netlist with the ports of the system's module alone.
abbrev pub without_fed : NamedSystem → Net → Net
without_fed s n =
    record {
      module_name = n.module_name;
      names = n.names;
      ports = take (length (linked_ports s)) n.ports;
      inputs = n.inputs;
      wires = n.wires;
      registers = n.registers;
      memories = n.memories;
    }
