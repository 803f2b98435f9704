-- Netlists that stand in a larger one, each under names of its own.
use Rattle.std.specs.Prelude.{◌≡◌, ℕ, false, List, map, Some}
use Rattle.std.specs.List.{AllByRecursion}
use Rattle.sap_maps.specs.Maps.{Name, Valuation}
use Rattle.sap_maps.specs.Scope.{find}
use Rattle.sap_net.specs.declared.parts.Input.{Input}
use Rattle.sap_net.specs.declared.parts.Wire.{Wire}
use Rattle.sap_net.specs.declared.parts.Register.{Register}
use Rattle.sap_net.specs.declared.parts.Memory.{Memory}
use Rattle.sap_net.specs.Names.{is_among}
use Rattle.sap_net.specs.Net.{Net}
use Rattle.sap_net.specs.IsNetlist.{readable, register_names}
use Rattle.sap_build.specs.Copies.{copy_wire, copy_register, copy_memory}

-- What a netlist has under each name.
abbrev pub wires_named : Net → List (Name × Wire)
wires_named n = map (λ w. (w.name, w)) n.wires

-- The registers by their names.
abbrev pub registers_named : Net → List (Name × Register)
registers_named n = map (λ r. (r.name, r)) n.registers

-- The memories by their names.
abbrev pub memories_named : Net → List (Name × Memory)
memories_named n = map (λ m. (m.name, m)) n.memories

-- An input or wire of this width has the name.
pub record Feeds (n : Net) (x : Name) (u : ℕ) : Type 0 where
  pub width : find (readable n) x ≡ Some u
  pub unclocked : is_among x (register_names n) ≡ false

-- The whole has, under f x for each name x of the part, the same wires, registers and memories; where the part has an
-- input the whole has an input or a wire, which feeds the part.
pub record IsPart (f : Name → Name) (part whole : Net) : Type 0 where
  pub fed : AllByRecursion (λ i. Feeds whole (f i.name) i.width) part.inputs
  pub wires : AllByRecursion (λ w. find (wires_named whole) (f w.name) ≡ Some (copy_wire f w)) part.wires
  pub registers : AllByRecursion (λ r. find (registers_named whole) (f r.name)
      ≡ Some (copy_register f r)) part.registers
  pub memories : AllByRecursion (λ m. find (memories_named whole) (f m.name) ≡ Some (copy_memory f m)) part.memories

-- The numbers that feed the part in a cycle of the whole.
abbrev pub fed_numbers : (f : Name → Name) → (part : Net) → Valuation → List ℕ
fed_numbers f part v = map (λ (i : Input). v.value (f i.name)) part.inputs
