-- Copies of a netlist under other names.
use Rattle.std.specs.Prelude.{◌≡◌, List, map, true}
use Rattle.std.specs.List.{AllByRecursion}
use Rattle.sap_maps.specs.Maps.{Name, Valuation}
use Rattle.sap_net.specs.declared.parts.Operand.{Operand}
use Rattle.sap_net.specs.declared.parts.Operand.TheVariants.{Named, Constant}
use Rattle.sap_net.specs.declared.parts.Right.{Right}
use Rattle.sap_net.specs.declared.parts.Right.TheVariants.{Copy, One, Two, Choose, Concat, Slice, Cell}
use Rattle.sap_net.specs.declared.parts.Port.{Port}
use Rattle.sap_net.specs.declared.parts.Input.{Input}
use Rattle.sap_net.specs.declared.parts.Wire.{Wire}
use Rattle.sap_net.specs.declared.parts.Register.{Register}
use Rattle.sap_net.specs.declared.parts.Memory.{Memory}
use Rattle.sap_net.specs.Names.{is_name, is_among}
use Rattle.sap_net.specs.Net.{Net}

-- An operand with its name replaced.
abbrev pub copy_operand : (Name → Name) → Operand → Operand
copy_operand f (Named x) = Named (f x)
copy_operand f (Constant w n) = Constant w n

-- A right side with its names replaced.
abbrev pub copy_right : (Name → Name) → Right → Right
copy_right f (Copy a) = Copy (copy_operand f a)
copy_right f (One op a) = One op (copy_operand f a)
copy_right f (Two op a b) = Two op (copy_operand f a) (copy_operand f b)
copy_right f (Choose c a b) = Choose (copy_operand f c) (copy_operand f a) (copy_operand f b)
copy_right f (Concat os) = Concat (map (copy_operand f) os)
copy_right f (Slice x hi lo) = Slice (f x) hi lo
copy_right f (Cell m i) = Cell (f m) (copy_operand f i)

-- A port with its name replaced.
abbrev pub copy_port : (Name → Name) → Port → Port
copy_port f p = record { name = f p.name; kind = p.kind }

-- An input with its name replaced.
abbrev pub copy_input : (Name → Name) → Input → Input
copy_input f i = record { name = f i.name; width = i.width }

-- A wire with its names replaced.
abbrev pub copy_wire : (Name → Name) → Wire → Wire
copy_wire f w = record { name = f w.name; width = w.width; right = copy_right f w.right }

-- A register with its names replaced.
abbrev pub copy_register : (Name → Name) → Register → Register
copy_register f r = record { name = f r.name; width = r.width; start = r.start; next = copy_operand f r.next }

-- A memory with its names replaced.
abbrev pub copy_memory : (Name → Name) → Memory → Memory
copy_memory f m =
    record {
      name = f m.name;
      width = m.width;
      depth = m.depth;
      start = m.start;
      enable = copy_operand f m.enable;
      index = copy_operand f m.index;
      value = copy_operand f m.value;
    }

-- The netlist with f x for each name x, under a module name of its own.
abbrev pub copy_net : (module_name : Name) → (Name → Name) → Net → Net
copy_net module_name f n =
    record {
      module_name = module_name;
      names = map f n.names;
      ports = map (copy_port f) n.ports;
      inputs = map (copy_input f) n.inputs;
      wires = map (copy_wire f) n.wires;
      registers = map (copy_register f) n.registers;
      memories = map (copy_memory f) n.memories;
    }

-- No two of these names become one.
abbrev pub IsOneToOne : (Name → Name) → List Name → Type 0
IsOneToOne f ns = (x y : Name) → is_among x ns ≡ true → is_among y ns ≡ true → f x ≡ f y → x ≡ y

-- No two declared names become one, and each becomes a name that a module can have.
pub record KeepsApart (f : Name → Name) (n : Net) : Type 0 where
  pub apart : IsOneToOne f n.names
  pub named : AllByRecursion (λ x. is_name (f x) ≡ true) n.names

-- A valuation of a copy, read at the names of the netlist.
abbrev pub through : (Name → Name) → Valuation → Valuation
through f v = record { value = λ x. v.value (f x); cell = λ m. v.cell (f m) }
