-- An example: two parts, of which one feeds the other through a level.
use Rattle.std.specs.Prelude.{◌≡◌, ℕ, zero, suc, List, [], ◌∷◌, ◌++◌, codes, map, Some}
use Rattle.sap_bits.specs.declared.Op2.TheVariants.{Add}
use Rattle.sap_maps.specs.Maps.{Name}
use Rattle.sap_lattice.specs.Examples.{low_high}
use Rattle.sap_net.specs.declared.parts.Operand.TheVariants.{Named, Constant}
use Rattle.sap_net.specs.declared.parts.Right.TheVariants.{Copy, Two}
use Rattle.sap_net.specs.declared.parts.PortKind.{PortKind}
use Rattle.sap_net.specs.declared.parts.PortKind.TheVariants as kind
use Rattle.sap_net.specs.declared.parts.Port.{Port}
use Rattle.sap_net.specs.declared.parts.Wire.{Wire}
use Rattle.sap_net.specs.declared.parts.Register.{Register}
use Rattle.sap_net.specs.Net.{Net}
use Rattle.sap_net.specs.PortNames.{value_name, tag_name, root_seat, top_name}
use Rattle.sap_net.specs.IsNetlist.{IsNetlist}
use Rattle.sap_link.specs.Examples.{adds, copies, wire}
use Rattle.sap_linked.specs.Parts.{NamedSystem}
use Rattle.sap_linked.specs.Interface.{linked_ports}
use Rattle.sap_linked.specs.Designs.{named_system}
use Rattle.sap_linked.specs.Netlist.{assign, linked_net}

-- `p` adds 1 to its input, and feeds q through low; q copies its input.
abbrev pub p_and_q : NamedSystem
p_and_q = named_system low_high (record { name = codes "p"; design = adds } ∷ record {
  name = codes "q";
  design = copies;
} ∷ []) (wire 0 1 (Some 0) ∷ [])

-- `p`'s input, both registers, and both sites: q's input is no port.
abbrev pub PortsInOrder : Type 0
PortsInOrder =
    linked_ports p_and_q
    ≡ (codes "v_p_a", kind.Input)
    ∷ (codes "t_p_a", kind.Input)
    ∷ (codes "v_p_x", kind.Register)
    ∷ (codes "t_p_x", kind.Register)
    ∷ (codes "v_q_y", kind.Register)
    ∷ (codes "t_q_y", kind.Register)
    ∷ (codes "c_p_1", kind.Wire)
    ∷ (codes "l_p_1", kind.Wire)
    ∷ (codes "c_q_1", kind.Wire)
    ∷ (codes "l_q_1", kind.Wire)
    ∷ []

-- A register that starts with 0 and takes a name.
abbrev pub register : Name → (width : ℕ) → (next : Name) → Register
register x u next = record { name = x; width = u; start = 0; next = Named next }

-- A port of a name and a kind.
abbrev pub port : Name → PortKind → Port
port x k = record { name = x; kind = k }

-- A netlist with the interface of such a design, whose register takes `next`, by some wires.
abbrev pub simple_net : (input output next : Name) → List Wire → Net
simple_net input output next wires =
    record {
      module_name = top_name;
      names =
          value_name input
          ∷ tag_name input
          ∷ value_name output
          ∷ tag_name output
          ∷ codes "c_1"
          ∷ codes "l_1"
          ∷ (map (λ (w : Wire). w.name) wires ++ tag_name (codes "S") ∷ root_seat ∷ []);
      ports =
          port (value_name input) kind.Input
          ∷ port (tag_name input) kind.Input
          ∷ port (value_name output) kind.Register
          ∷ port (tag_name output) kind.Register
          ∷ port (codes "c_1") kind.Wire
          ∷ port (codes "l_1") kind.Wire
          ∷ [];
      inputs = record { name = value_name input; width = 8 } ∷ record { name = tag_name input; width = 1 } ∷ [];
      wires = wires ++ assign (codes "c_1") 1 (Copy (Constant 1 0)) ∷ assign (codes "l_1") 1 (Copy (Constant 1 0)) ∷ [];
      registers =
          register (value_name output) 8 next
          ∷ register (tag_name output) 1 (tag_name input)
          ∷ register (tag_name (codes "S")) 1 (tag_name (codes "S"))
          ∷ register root_seat 1 root_seat
          ∷ [];
      memories = [];
    }

-- The netlists of the example's two parts.
abbrev pub simple_nets : ℕ → Net
simple_nets zero = simple_net (codes "a") (codes "x") (codes "n0")
    (assign (codes "n0") 8 (Two Add (Named (codes "v_a")) (Constant 8 1)) ∷ [])
simple_nets (suc i) = simple_net (codes "b") (codes "y") (codes "v_b") []

-- The netlist of the two keeps the rules of netlists.
abbrev pub LinkedIsNetlist : Type 0
LinkedIsNetlist = IsNetlist (linked_net p_and_q simple_nets)
