-- The numbers that a line of a stimulus gives the inputs of a netlist.
use Rattle.std.specs.Prelude.{ℕ, List, [], ◌∷◌, map, get_or, bytes_eq, if◌then◌else◌}
use Rattle.std.specs.List.{position_or_len}
use Rattle.std.specs.Str.{byte}
use Rattle.sap_lattice.specs.Levels.{Levels, order_of}
use Rattle.sap_lattice.specs.Codes.{code_of}
use Rattle.sap_maps.specs.Maps.{Name}
use Rattle.sap_meaning.specs.Cycle.{Tagged as Given}
use Rattle.sap_net.specs.declared.parts.Input.{Input}
use Rattle.sap_net.specs.Net.{Net}
use Rattle.sap_sim.specs.Fields.{tag_width, is_tag, with_field}

-- Where a name stands on a list, from 0: the first place, or the length where there is none.
abbrev pub place : List Name → Name → ℕ
place ns n = position_or_len (λ m. bytes_eq m n) ns

-- What a missing field gives.
abbrev pub nothing : Given
nothing = record { number = 0; level = 0 }

-- The names of the inputs that have a field.
abbrev pub field_names : (tag : ℕ) → List Input → List Name
field_names tag is = map (λ i. i.name) (with_field tag is)

-- What a line has in the field of a name.
abbrev pub given : (tag : ℕ) → List Input → List Given → Name → Given
given tag is xs n = get_or xs (place (field_names tag is) n) nothing

-- `v_a` for `t_a`.
abbrev pub value_for : Name → Name
value_for [] = []
value_for (letter ∷ n) = byte "v" ∷ n

-- A tag gets the code of the level that stands in the field of its value, another input the value in its own field.
abbrev pub number_for : Levels → List Input → List Given → Input → ℕ
number_for ls is xs i =
    if is_tag (tag_width ls) is i then code_of (order_of ls) (given (tag_width ls) is xs (value_for i.name)).level
    else (given (tag_width ls) is xs i.name).number

-- In port order.
abbrev pub numbers_of : Levels → Net → List Given → List ℕ
numbers_of ls n xs = map (number_for ls n.inputs xs) n.inputs
