-- The lists of a netlist, from what is noted under the names.
use Rattle.std.specs.Prelude.{◌≡◌, ℕ, ◌+◌, List, [], ◌∷◌, Option, Some, None, unwrap_or, slice_get}
use Rattle.sap_net.specs.declared.parts.Operand.{Operand}
use Rattle.sap_net.specs.declared.parts.Wire.{Wire}
use Rattle.sap_net.specs.declared.parts.Register.{Register}
use Rattle.sap_net.specs.declared.parts.Memory.{Memory}
use Rattle.sap_vtext.specs.Items as item
use Rattle.sap_vtext.specs.Modules.{net_operand, net_right, nothing, Write, written_memory}
use Rattle.sap_vread.specs.Build.Narrow.{narrow, narrow_operand, narrow_right}
use Rattle.sap_vparse.specs.Views.{item_of}
use Rattle.sap_vparse.specs.declared.items.Item.{Item}
use Rattle.sap_vread.specs.declared.build.edges.Write as edges

-- The width of a noted range; 0 where there is none.
abbrev pub width_of_range : Option ℕ → ℕ
width_of_range (Some range) = narrow range + 1
width_of_range None = 0

-- The wire that an item assigns.
abbrev pub built_wires : (List ℕ → Option ℕ) → item.Item → List Wire
built_wires ranges (item.assign x right) =
    record { name = x.name; width = width_of_range (ranges x.name); right = net_right (narrow_right right) } ∷ []
built_wires ranges _ = []

-- What an item says a register takes, and a memory is written.
abbrev pub next_of : item.Item → Operand
next_of (item.always x next) = net_operand (narrow_operand next)
next_of _ = nothing

-- A write where none is given.
abbrev pub no_write : Write
no_write = record { enable = nothing; index = nothing; value = nothing }

-- The write that an item makes.
abbrev pub write_of : item.Item → Write
write_of (item.always_cell condition x index value) =
    record {
      enable = net_operand (narrow_operand condition);
      index = net_operand (narrow_operand index);
      value = net_operand (narrow_operand value);
    }
write_of _ = no_write

-- What is made of an item, or another thing where there is none.
abbrev pub of_item : {A : Type 0} → (item.Item → A) → A → Option Item → A
of_item h other None = other
of_item h other (Some x) = h (item_of x)

-- What the item at a place says.
abbrev pub at_place : {A : Type 0} → (item.Item → A) → A → List Item → Option ℕ → A
at_place h other items None = other
at_place h other items (Some place) = of_item h other (slice_get items place)

-- The register of a name.
abbrev pub built_register : (starts nexts : List ℕ → Option ℕ) → List Item → List ℕ → ℕ → Register
built_register starts nexts items n range =
    record {
      name = n;
      width = narrow range + 1;
      start = unwrap_or (starts n) 0;
      next = at_place next_of nothing items (nexts n);
    }

-- The memory of a name.
abbrev pub built_memory : (starts writes : List ℕ → Option ℕ) → List Item → List ℕ → (range last : ℕ) → Memory
built_memory starts writes items n range last =
    written_memory n (narrow range + 1) (narrow last + 1) (unwrap_or (starts n) 0)
    (at_place write_of no_write items (writes n))

-- The register that a port declares.
abbrev pub port_registers : (starts nexts : List ℕ → Option ℕ) → List Item → item.Direction → List ℕ → ℕ → List Register
port_registers starts nexts items item.output_register n range = built_register starts nexts items n range ∷ []
port_registers starts nexts items _ n range = []

-- The register that an item declares.
abbrev pub item_registers : (starts nexts : List ℕ → Option ℕ) → List Item → item.Item → List Register
item_registers starts nexts items (item.register range x) = built_register starts nexts items x.name range.value ∷ []
item_registers starts nexts items _ = []

-- The memory that an item declares.
abbrev pub item_memories : (starts writes : List ℕ → Option ℕ) → List Item → item.Item → List Memory
item_memories starts writes items (item.memory range x last) =
    built_memory starts writes items x.name range.value last.value ∷ []
item_memories starts writes items _ = []

-- The parts of a write.
pub record WriteIs (w : edges.Write) (is : Write) : Type 0 where
  pub enable : w.enable ≡ is.enable
  pub index : w.index ≡ is.index
  pub value : w.value ≡ is.value
