-- The names of wires, and the names that stay.
use Rattle.std.specs.Prelude.{◌≡◌, ℕ, zero, suc, false, not, List, [], ◌∷◌, ◌++◌, map, filter}
use Rattle.sap_maps.specs.Maps.{Name}
use Rattle.sap_net.specs.Names.{is_among}
use Rattle.sap_net.specs.Net.{Net}
use Rattle.sap_net.specs.IsNetlist.{register_names, memory_names}
use Rattle.sap_net.specs.declared.parts.Wire.{Wire}
unfoldable pub use Rattle.sap_share.specs.Names.{helper}

-- The names of the first k helping wires, in order.
abbrev pub numbered : ℕ → List Name
numbered zero = []
numbered (suc k) = numbered k ++ helper k ∷ []

-- The names of the ports.
abbrev pub port_names : Net → List Name
port_names n = map (λ p. p.name) n.ports

-- The names of ports, inputs among them, registers and memories.
abbrev pub lasting_names : Net → List Name
lasting_names n = port_names n ++ (register_names n ++ memory_names n)

-- The wires that are ports.
abbrev pub shown_wires : Net → List Wire
shown_wires n = filter (λ w. is_among w.name (port_names n)) n.wires

-- The wires that are no ports.
abbrev pub helping_wires : Net → List Wire
helping_wires n = filter (λ w. not (is_among w.name (port_names n))) n.wires

-- No port, register or memory has the name of a helping wire.
abbrev pub NoneNumbered : Net → Type 0
NoneNumbered n = (k : ℕ) → is_among (helper k) (lasting_names n) ≡ false
