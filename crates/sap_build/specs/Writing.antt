-- Netlists, written part by part.
use Rattle.std.specs.Prelude.{◌≡◌, ℕ, ◌≤◌, ◌<◌, ◌^◌, List, [], ◌∷◌, ◌++◌, true, false}
use Rattle.sap_maps.specs.Maps.{Name}
use Rattle.sap_net.specs.declared.parts.PortKind.TheVariants as kind
use Rattle.sap_net.specs.declared.parts.Port.{Port}
use Rattle.sap_net.specs.declared.parts.Input.{Input}
use Rattle.sap_net.specs.declared.parts.Wire.{Wire}
use Rattle.sap_net.specs.declared.parts.Register.{Register}
use Rattle.sap_net.specs.declared.parts.Memory.{Memory}
use Rattle.sap_net.specs.Names.{is_among, helper}
use Rattle.sap_net.specs.Net.{Net}

-- The netlist with nothing but its module's name.
abbrev pub blank : (module_name : Name) → Net
blank x = record { module_name = x; names = []; ports = []; inputs = []; wires = []; registers = []; memories = [] }

-- The netlist with more declared names, wires and registers, each behind those that are there.
abbrev pub grown : List Name → List Wire → List Register → Net → Net
grown xs ws rs n =
    record {
      module_name = n.module_name;
      names = n.names ++ xs;
      ports = n.ports;
      inputs = n.inputs;
      wires = n.wires ++ ws;
      registers = n.registers ++ rs;
      memories = n.memories;
    }

-- The netlist with one more declared name.
abbrev pub declared : Name → Net → Net
declared x n =
    record {
      module_name = n.module_name;
      names = n.names ++ x ∷ [];
      ports = n.ports;
      inputs = n.inputs;
      wires = n.wires;
      registers = n.registers;
      memories = n.memories;
    }

-- With one more port, whose name is declared with it.
abbrev pub shown : Port → Net → Net
shown p n =
    record {
      module_name = n.module_name;
      names = n.names ++ p.name ∷ [];
      ports = n.ports ++ p ∷ [];
      inputs = n.inputs;
      wires = n.wires;
      registers = n.registers;
      memories = n.memories;
    }

-- With one more input, and the port of it.
abbrev pub with_input : Input → Net → Net
with_input i n =
    record {
      module_name = n.module_name;
      names = n.names ++ i.name ∷ [];
      ports = n.ports ++ record { name = i.name; kind = kind.Input } ∷ [];
      inputs = n.inputs ++ i ∷ [];
      wires = n.wires;
      registers = n.registers;
      memories = n.memories;
    }

-- With one more `assign`, to a name that is declared elsewhere.
abbrev pub assigned : Wire → Net → Net
assigned w n =
    record {
      module_name = n.module_name;
      names = n.names;
      ports = n.ports;
      inputs = n.inputs;
      wires = n.wires ++ w ∷ [];
      registers = n.registers;
      memories = n.memories;
    }

-- With one more register, whose name is declared elsewhere.
abbrev pub registered : Register → Net → Net
registered r n =
    record {
      module_name = n.module_name;
      names = n.names;
      ports = n.ports;
      inputs = n.inputs;
      wires = n.wires;
      registers = n.registers ++ r ∷ [];
      memories = n.memories;
    }

-- With one more memory, and its name.
abbrev pub with_memory : Memory → Net → Net
with_memory m n =
    record {
      module_name = n.module_name;
      names = n.names ++ m.name ∷ [];
      ports = n.ports;
      inputs = n.inputs;
      wires = n.wires;
      registers = n.registers;
      memories = n.memories ++ m ∷ [];
    }

-- ---- names for helping wires

-- What no helping wire can be named.
abbrev pub taken : Net → List Name
taken n = n.module_name ∷ n.names

-- The helping wires of all numbers from 1 to below k have names that are taken.
abbrev pub AreTaken : (taken : List Name) (k : ℕ) → Type 0
AreTaken taken k = (j : ℕ) → 1 ≤ j → j < k → is_among (helper j) taken ≡ true

-- The least number from 1 on whose name isn't taken.
pub record IsFree (taken : List Name) (k : ℕ) : Type 0 where
  pub positive : 1 ≤ k
  pub free : is_among (helper k) taken ≡ false
  pub least : AreTaken taken k

-- The name of that number.
pub record IsFresh (taken : List Name) (x : Name) : Type 0 where
  pub number : ℕ
  pub counted : number < 2 ^ 64
  pub named : x ≡ helper number
  pub least : IsFree taken number
