-- A worked example: a netlist with a tagged input, whose tag comes first, a plain input, a register with a tag and one
-- without.
use Rattle.std.specs.Prelude.{◌≡◌, ℕ, List, [], ◌∷◌, codes}
use Rattle.sap_lattice.specs.Examples.{low_high}
use Rattle.sap_meaning.specs.Cycle.{Tagged as Given}
use Rattle.sap_net.specs.declared.parts.Operand.TheVariants.{Constant}
use Rattle.sap_net.specs.declared.parts.PortKind.TheVariants as kind
use Rattle.sap_net.specs.declared.parts.Port.{Port}
use Rattle.sap_net.specs.declared.parts.Input.{Input}
use Rattle.sap_net.specs.declared.parts.Register.{Register}
use Rattle.sap_net.specs.Net.{Net}
use Rattle.sap_stim.specs.declared.field.Field.TheVariants.{Tagged, Plain}
use Rattle.sap_sim.specs.Fields.{fields_of}
use Rattle.sap_sim.specs.Numbers.{numbers_of}
use Rattle.sap_sim.specs.Shown.{shown_registers}

-- A register that starts with 0 and stays.
abbrev pub register : List ℕ → (width : ℕ) → Register
register name width = record { name = name; width = width; start = 0; next = Constant width 0 }

-- Three inputs; the first is the tag of the second.
abbrev pub inputs : List Input
inputs =
    record { name = codes "t_a"; width = 1 }
    ∷ record { name = codes "v_a"; width = 8 }
    ∷ record { name = codes "b"; width = 4 }
    ∷ []

-- Three registers; the second is the tag of the first.
abbrev pub registers : List Register
registers = register (codes "v_x") 8 ∷ register (codes "t_x") 1 ∷ register (codes "v_y") 8 ∷ []

-- The ports of the small netlist.
abbrev pub ports : List Port
ports =
    record { name = codes "t_a"; kind = kind.Input }
    ∷ record { name = codes "v_a"; kind = kind.Input }
    ∷ record { name = codes "b"; kind = kind.Input }
    ∷ record { name = codes "v_x"; kind = kind.Register }
    ∷ record { name = codes "t_x"; kind = kind.Register }
    ∷ record { name = codes "v_y"; kind = kind.Register }
    ∷ []

-- A netlist with tagged and plain inputs and registers.
abbrev pub small : Net
small =
    record {
      module_name = codes "top";
      names = codes "t_a" ∷ codes "v_a" ∷ codes "b" ∷ codes "v_x" ∷ codes "t_x" ∷ codes "v_y" ∷ [];
      ports = ports;
      inputs = inputs;
      wires = [];
      registers = registers;
      memories = [];
    }

-- A number with its level.
abbrev pub given : (number level : ℕ) → Given
given number level = record { number = number; level = level }

-- Its fields: a tagged one and a plain one.
abbrev pub Fields : Type 0
Fields = fields_of low_high small ≡ Tagged 8 ∷ Plain 4 ∷ []

-- The line `5@high 3`: 1 is the code of high.
abbrev pub Numbers : Type 0
Numbers = numbers_of low_high small (given 5 1 ∷ given 3 0 ∷ []) ≡ 1 ∷ 5 ∷ 3 ∷ []

-- The register that a row shows: the one that has a tag.
abbrev pub Registers : Type 0
Registers = shown_registers low_high small ≡ codes "x" ∷ []
