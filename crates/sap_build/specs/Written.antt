-- What each step of writing keeps: where a netlist keeps the rules of netlists, so does the netlist with one more
-- input, wire, register or memory.
use Rattle.std.specs.Prelude.{◌≡◌, ◌∷◌, map, true, false}
use Rattle.sap_maps.specs.Maps.{Name}
use Rattle.sap_net.specs.declared.parts.PortKind.TheVariants as kind
use Rattle.sap_net.specs.declared.parts.Input.{Input}
use Rattle.sap_net.specs.declared.parts.Wire.{Wire}
use Rattle.sap_net.specs.declared.parts.Register.{Register}
use Rattle.sap_net.specs.declared.parts.Memory.{Memory}
use Rattle.sap_net.specs.Names.{is_name, is_among}
use Rattle.sap_net.specs.Net.{Net}
use Rattle.sap_net.specs.Rules.{IsWidth, IsRight, IsRegister, IsMemory}
use Rattle.sap_net.specs.IsNetlist.{IsNetlist, readable, shapes}
use Rattle.sap_build.specs.Writing.{blank, declared, shown, with_input, assigned, registered, with_memory, taken, IsFresh}

-- The netlist declares no such name.
pub record IsNew (n : Net) (x : Name) : Type 0 where
  pub named : is_name x ≡ true
  pub undeclared : is_among x n.names ≡ false

-- Each declared name is a port's.
abbrev pub ArePorts : Net → Type 0
ArePorts n = map (λ p. p.name) n.ports ≡ n.names

-- A netlist without items is one, under each name.
abbrev pub BlankIsNetlist : Type 0
BlankIsNetlist = (x : Name) → is_name x ≡ true → IsNetlist (blank x)

-- The name of a helping wire is new.
abbrev pub HelpersAreNew : Type 0
HelpersAreNew = (n : Net) (x : Name) → IsFresh (taken n) x → IsNew n x

-- One more input.
abbrev pub InputsAreAdded : Type 0
InputsAreAdded = (n : Net) → IsNetlist n → ArePorts n → (i : Input) → IsNew n i.name → IsWidth i.width
    → IsNetlist (with_input i n)

-- A netlist stays one with one more wire, which reads inputs, registers and the wires before.
abbrev pub WiresAreAdded : Type 0
WiresAreAdded =
    (n : Net) → IsNetlist n → (w : Wire) → IsNew n w.name → IsWidth w.width
    → IsRight (shapes n) (readable n) w.width w.right
    → IsNetlist (assigned w (declared w.name n))

-- A netlist stays one with one more such wire that has a port.
abbrev pub ShownWiresAreAdded : Type 0
ShownWiresAreAdded =
    (n : Net) → IsNetlist n → ArePorts n → (w : Wire) → IsNew n w.name → IsWidth w.width
    → IsRight (shapes n) (readable n) w.width w.right
    → IsNetlist (assigned w (shown (record { name = w.name; kind = kind.Wire }) n))

-- A netlist stays one with one more register, which takes itself or what can be read before.
abbrev pub RegistersAreAdded : Type 0
RegistersAreAdded =
    (n : Net) → IsNetlist n → (r : Register) → IsNew n r.name → IsWidth r.width
    → IsRegister ((r.name, r.width) ∷ readable n) r
    → IsNetlist (registered r (declared r.name n))

-- A netlist stays one with one more such register that has a port.
abbrev pub ShownRegistersAreAdded : Type 0
ShownRegistersAreAdded =
    (n : Net) → IsNetlist n → ArePorts n → (r : Register) → IsNew n r.name → IsWidth r.width
    → IsRegister ((r.name, r.width) ∷ readable n) r
    → IsNetlist (registered r (shown (record { name = r.name; kind = kind.Register }) n))

-- One more memory.
abbrev pub MemoriesAreAdded : Type 0
MemoriesAreAdded = (n : Net) → IsNetlist n → (m : Memory) → IsNew n m.name → IsWidth m.width
    → IsMemory (readable n) m → IsNetlist (with_memory m n)
