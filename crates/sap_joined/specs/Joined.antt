-- The netlist of several netlists: all of them side by side, each name behind its part's, and in front of them the
-- wires by which registers feed inputs.
use Rattle.std.specs.Prelude.{ℕ, Bool, not, ◌&&◌, List, [], ◌∷◌, ◌++◌, map, filter, Option, Some, None, codes}
use Rattle.sap_bits.specs.declared.Op2.TheVariants.{Or, Eq}
use Rattle.sap_maps.specs.Maps.{Name}
use Rattle.sap_net.specs.declared.parts.Operand.TheVariants.{Named, Constant}
use Rattle.sap_net.specs.declared.parts.Right.TheVariants.{Copy, Two, Choose}
use Rattle.sap_net.specs.declared.parts.PortKind.TheVariants as kind
use Rattle.sap_net.specs.declared.parts.Port.{Port}
use Rattle.sap_net.specs.declared.parts.Input.{Input}
use Rattle.sap_net.specs.declared.parts.Wire.{Wire}
use Rattle.sap_net.specs.declared.parts.Register.{Register}
use Rattle.sap_net.specs.declared.parts.Memory.{Memory}
use Rattle.sap_net.specs.Names.{is_among}
use Rattle.sap_net.specs.Net.{Net}
use Rattle.sap_net.specs.IsNetlist.{is_input}
use Rattle.sap_net.specs.Shown.{is_register}
use Rattle.sap_net.specs.PortNames.{value_name, tag_name, top_name}
use Rattle.sap_build.specs.Copies.{copy_port, copy_input, copy_wire, copy_register, copy_memory}
use Rattle.sap_linked.specs.Parts.{in_part}
use Rattle.sap_linked.specs.Netlist.{assign}

-- A part's name and its netlist.
pub record NamedNet : Type 0 where
  pub name : Name
  pub net : Net

-- A register of a part feeds an input of a part, both so wide, through the level of this code where there is one. Names
-- are those of the designs: for x the netlists have `v_x` and `t_x`.
pub record Feed : Type 0 where
  pub from_part : Name
  pub from : Name
  pub to_part : Name
  pub to : Name
  pub width : ℕ
  pub level : Option ℕ

-- The value and the tag of the register and of the input.
abbrev pub value_from : Feed → Name
value_from f = in_part f.from_part (value_name f.from)

-- The register's tag from which a wire leads.
abbrev pub tag_from : Feed → Name
tag_from f = in_part f.from_part (tag_name f.from)

-- The input's number to which a wire leads.
abbrev pub value_to : Feed → Name
value_to f = in_part f.to_part (value_name f.to)

-- The input's tag to which a wire leads.
abbrev pub tag_to : Feed → Name
tag_to f = in_part f.to_part (tag_name f.to)

-- Through a level: the join of the register's code with that of the level, and whether that is the code of the level.
abbrev pub joined_to : Feed → Name
joined_to f = in_part f.to_part (codes "j_" ++ f.to)

-- The helping wire that tells whether a wire lets through.
abbrev pub below_to : Feed → Name
below_to f = in_part f.to_part (codes "b_" ++ f.to)

-- The join of the register's tag and the wire's level.
abbrev pub join_wire : (tag : ℕ) → Feed → (code : ℕ) → Wire
join_wire tag f c = assign (joined_to f) tag (Two Or (Named (tag_from f)) (Constant tag c))

-- The register's tag is at or below the wire's level.
abbrev pub test_wire : (tag : ℕ) → Feed → (code : ℕ) → Wire
test_wire tag f c = assign (below_to f) 1 (Two Eq (Named (joined_to f)) (Constant tag c))

-- The value where that is so, else 0.
abbrev pub choice_wire : Feed → Wire
choice_wire f = assign (value_to f) f.width (Choose (Named (below_to f)) (Named (value_from f)) (Constant f.width 0))

-- What feeds the input, through no level or through that of a code; `tag` is the width of tags.
abbrev pub feeds_by : (tag : ℕ) → Feed → Option ℕ → List Wire
feeds_by tag f None =
    assign (value_to f) f.width (Copy (Named (value_from f)))
    ∷ assign (tag_to f) tag (Copy (Named (tag_from f)))
    ∷ []
feeds_by tag f (Some c) =
    join_wire tag f c
    ∷ test_wire tag f c
    ∷ choice_wire f
    ∷ assign (tag_to f) tag (Copy (Constant tag c))
    ∷ []

-- The wires in place of fed inputs.
abbrev pub feed_wires : (tag : ℕ) → List Feed → List Wire
feed_wires tag [] = []
feed_wires tag (f ∷ fs) = feeds_by tag f f.level ++ feed_wires tag fs

-- What each part's netlist has, behind the part's name.
abbrev pub copies_of : {X : Type 0} → (items : Net → List X) → (copy : (Name → Name) → X → X) → List NamedNet → List X
copies_of items copy [] = []
copies_of items copy (p ∷ ps) = map (copy (in_part p.name)) (items p.net) ++ copies_of items copy ps

-- The ports of all parts, under the parts' names.
abbrev pub part_ports : List NamedNet → List Port
part_ports parts = copies_of (λ n. n.ports) copy_port parts

-- The inputs of all parts, under the parts' names.
abbrev pub part_inputs : List NamedNet → List Input
part_inputs parts = copies_of (λ n. n.inputs) copy_input parts

-- The registers of all parts, under the parts' names.
abbrev pub part_registers : List NamedNet → List Register
part_registers parts = copies_of (λ n. n.registers) copy_register parts

-- The names of inputs that are fed.
abbrev pub fed_names : List Feed → List Name
fed_names [] = []
fed_names (f ∷ fs) = value_to f ∷ tag_to f ∷ fed_names fs

-- A wire leads to the input.
abbrev pub is_fed : List Feed → Name → Bool
is_fed feeds x = is_among x (fed_names feeds)

-- Which ports of parts the whole has as what; `fed` tells the names of inputs that are fed.
abbrev pub is_free_port : (fed : Name → Bool) → Port → Bool
is_free_port fed p = is_input p.kind && not (fed p.name)

-- The port is an input to which a wire leads.
abbrev pub is_fed_port : (fed : Name → Bool) → Port → Bool
is_fed_port fed p = is_input p.kind && fed p.name

-- The port shows a register.
abbrev pub is_register_port : Port → Bool
is_register_port p = is_register p.kind

-- The port shows a wire.
abbrev pub is_wire_port : Port → Bool
is_wire_port p = not (is_input p.kind) && not (is_register p.kind)

-- A port for the wire that feeds what was an input.
abbrev pub as_wire : Port → Port
as_wire p = record { name = p.name; kind = kind.Wire }

-- Ports of parts: all free inputs, then all registers, then all wires; and then what feeds inputs, so that it keeps its
-- names when the netlist is made small.
abbrev pub ports_by : (fed : Name → Bool) → List Port → List Port
ports_by fed ports =
    filter (is_free_port fed) ports
    ++ filter is_register_port ports
    ++ filter is_wire_port ports
    ++ map as_wire (filter (is_fed_port fed) ports)

-- The ports of the system: those of the parts without the fed inputs.
abbrev pub joined_ports : List NamedNet → List Feed → List Port
joined_ports parts feeds = ports_by (is_fed feeds) (part_ports parts)

-- No wire leads to the input.
abbrev pub is_free_input : (fed : Name → Bool) → Input → Bool
is_free_input fed i = not (fed i.name)

-- The inputs to which no wire leads.
abbrev pub free_inputs : List NamedNet → List Feed → List Input
free_inputs parts feeds = filter (is_free_input (is_fed feeds)) (part_inputs parts)

-- The names of ports, and then those of some things that no port shows.
abbrev pub port_names : List Port → List Name
port_names ports = map (λ (p : Port). p.name) ports

-- No port shows the name.
abbrev pub is_hidden : (shown : Name → Bool) → Name → Bool
is_hidden shown x = not (shown x)

-- A port shows the register.
abbrev pub is_shown_register : (shown : Name → Bool) → Register → Bool
is_shown_register shown r = shown r.name

-- No port shows the register.
abbrev pub is_hidden_register : (shown : Name → Bool) → Register → Bool
is_hidden_register shown r = not (shown r.name)

-- Registers that ports show stand in front of the others.
abbrev pub shown_first : (shown : Name → Bool) → List Register → List Register
shown_first shown rs = filter (is_shown_register shown) rs ++ filter (is_hidden_register shown) rs

-- The names of all wires, registers and memories.
abbrev pub names_within : List Wire → List Register → List Memory → List Name
names_within ws rs ms = map (λ (w : Wire). w.name) ws ++ map (λ (r : Register). r.name) rs
    ++ map (λ (m : Memory). m.name) ms

-- Wires that feed stand first: they read nothing but registers. Names and registers that ports show stand in front of
-- the others.
abbrev pub joined : (tag : ℕ) → List NamedNet → List Feed → Net
joined tag parts feeds =
    let ports = joined_ports parts feeds in
    let shown = port_names ports in
    let wires = feed_wires tag feeds ++ copies_of (λ n. n.wires) copy_wire parts in
    let registers = part_registers parts in
    let memories = copies_of (λ n. n.memories) copy_memory parts in
    record {
      module_name = top_name;
      names = shown ++ filter (is_hidden (λ x. is_among x shown)) (names_within wires registers memories);
      ports = ports;
      inputs = free_inputs parts feeds;
      wires = wires;
      registers = shown_first (λ x. is_among x shown) registers;
      memories = memories;
    }
