-- Netlists in the making: wires that are declared before they are assigned, and registers and memories before it is
-- known what they take.
use Rattle.std.specs.Prelude.{◌≡◌, ℕ, List, [], ◌∷◌, ◌++◌, map}
use Rattle.std.specs.List.{AllByRecursion}
use Rattle.sap_maps.specs.Maps.{Name}
use Rattle.sap_maps.specs.Scope.{Scope}
use Rattle.sap_net.specs.declared.parts.Operand.TheVariants.{Constant}
use Rattle.sap_net.specs.declared.parts.PortKind.TheVariants as kind
use Rattle.sap_net.specs.declared.parts.Right.TheVariants.{Copy}
use Rattle.sap_net.specs.declared.parts.Wire.{Wire}
use Rattle.sap_net.specs.declared.parts.Register.{Register}
use Rattle.sap_net.specs.declared.parts.Memory.{Memory}
use Rattle.sap_net.specs.Net.{Net}
use Rattle.sap_net.specs.Rules.{IsWidth, IsRight, IsRegister, IsMemory}
use Rattle.sap_net.specs.IsNetlist.{IsNetlist, readable, shapes}
use Rattle.sap_build.specs.Writing.{declared, shown, assigned}
use Rattle.sap_build.specs.Written.{IsNew, ArePorts}

-- A wire that is 0 till it is assigned.
abbrev pub waiting_wire : Name × ℕ → Wire
waiting_wire e = record { name = e.0; width = e.1; right = Copy (Constant e.1 0) }

-- The netlist with wires that wait for their `assign`, behind those that have it.
abbrev pub waiting : Scope → Net → Net
waiting es n =
    record {
      module_name = n.module_name;
      names = n.names;
      ports = n.ports;
      inputs = n.inputs;
      wires = n.wires ++ map waiting_wire es;
      registers = n.registers;
      memories = n.memories;
    }

-- The netlist with these registers and memories.
abbrev pub at_edges : List Register → List Memory → Net → Net
at_edges rs ms n =
    record {
      module_name = n.module_name;
      names = n.names;
      ports = n.ports;
      inputs = n.inputs;
      wires = n.wires;
      registers = rs;
      memories = ms;
    }

-- A netlist stays one with one more wire that waits.
abbrev pub WiresWait : Type 0
WiresWait =
    (n : Net) (es : Scope) → IsNetlist (waiting es n) → (x : Name) (u : ℕ) → IsNew n x → IsWidth u
    → IsNetlist (waiting (es ++ (x, u) ∷ []) (declared x n))

-- A netlist stays one with one more wire that waits and has a port.
abbrev pub ShownWiresWait : Type 0
ShownWiresWait =
    (n : Net) (es : Scope) → IsNetlist (waiting es n) → ArePorts n → (x : Name) (u : ℕ) → IsNew n x → IsWidth u
    → IsNetlist (waiting (es ++ (x, u) ∷ []) (shown (record { name = x; kind = kind.Wire }) n))

-- A wire waits no more, once it is assigned; it reads inputs, registers and the wires that were assigned before.
abbrev pub WaitsEnd : Type 0
WaitsEnd =
    (n : Net) (es fs : Scope) (w : Wire) → IsNetlist (waiting (es ++ (w.name, w.width) ∷ fs) n)
    → IsRight (shapes n) (readable n) w.width w.right
    → IsNetlist (waiting (es ++ fs) (assigned w n))

-- Registers and memories of the same names, widths and depths can take any input, register and wire.
abbrev pub EdgesAreGiven : Type 0
EdgesAreGiven =
    (n : Net) → IsNetlist n → (rs : List Register) (ms : List Memory)
    → map {B = Name × ℕ} (λ r. (r.name, r.width)) rs ≡ map (λ r. (r.name, r.width)) n.registers
    → map {B = Name × (ℕ × ℕ)} (λ m. (m.name, (m.width, m.depth))) ms ≡ shapes n
    → AllByRecursion (IsRegister (readable n)) rs → AllByRecursion (IsMemory (readable n)) ms
    → IsNetlist (at_edges rs ms n)
