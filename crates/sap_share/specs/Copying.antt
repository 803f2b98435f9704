-- Wires that are ports.
use Rattle.std.specs.Prelude.{◌≡◌, true, map}
use Rattle.std.specs.List.{AllByRecursion}
use Rattle.sap_net.specs.Names.{is_among}
use Rattle.sap_net.specs.Net.{Net}
use Rattle.sap_net.specs.declared.parts.Operand.{Operand}
use Rattle.sap_net.specs.declared.parts.Right.TheVariants.{Copy}

-- Each wire that is a port only copies what it shows.
abbrev pub CopiesPorts : Net → Type 0
CopiesPorts n = AllByRecursion (λ w. is_among w.name (map (λ p. p.name) n.ports) ≡ true → (a : Operand)
    × (w.right ≡ Copy a)) n.wires
