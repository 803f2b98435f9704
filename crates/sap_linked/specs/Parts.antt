-- Parts of a system with their names, and what their names are in the module of the system.
use Rattle.std.specs.Prelude.{◌≡◌, ◌<◌, true, length, ℕ, Bool, not, ◌==◌, List, [], ◌++◌, map, get_or, take, drop, codes}
use Rattle.std.specs.List.{list_all}
use Rattle.std.specs.Str.{byte}
use Rattle.sap_maps.specs.Maps.{Name}
use Rattle.sap_lattice.specs.Order.{Order}
use Rattle.sap_lattice.specs.Codes.{code_of}
use Rattle.sap_net.specs.Names.{is_inner}
use Rattle.sap_net.specs.PortNames.{value_name, tag_name}
use Rattle.sap_interface.specs.StandsFor.{Named, name}
use Rattle.sap_link.specs.Systems.{Endpoint, Wire, System}
use Rattle.sap_link.specs.Systems.{no_part as no_program}

-- A part has a name, a program with the names of its entities and the codes of levels, and so many check sites.
pub record Part : Type 0 where
  pub name : Name
  pub design : Named
  pub sites : ℕ

-- Named parts over one order of levels, and the wires between them.
pub record NamedSystem : Type 0 where
  pub order : Order
  pub parts : List Part
  pub wires : List Wire

-- What a number past the last part stands for.
abbrev pub no_part : Order → Part
no_part o = record { name = []; design = record { program = no_program o; names = []; code = code_of o }; sites = 0 }

-- A part by its number.
abbrev pub part_at : NamedSystem → ℕ → Part
part_at s i = get_or s.parts i (no_part s.order)

-- The system of programs behind the names.
abbrev pub system_of : NamedSystem → System
system_of s = record { order = s.order; parts = map (λ (p : Part). p.design.program) s.parts; wires = s.wires }

-- A name of a part as the module of the system has it: `v_x` of part P is `v_P_x`, and so are `t_P_x`, `s_P_0`, `c_P_1`
-- and `l_P_1`.
abbrev pub in_part : (part : Name) → Name → Name
in_part part x = take 2 x ++ (part ++ (codes "_" ++ drop 2 x))

-- The value and the tag of an entity of a part, in the module of the system.
abbrev pub value_at : NamedSystem → Endpoint → Name
value_at s e = let p = part_at s e.part in in_part p.name (value_name (name p.design e.entity))

-- The name of an endpoint's tag.
abbrev pub tag_at : NamedSystem → Endpoint → Name
tag_at s e = let p = part_at s e.part in in_part p.name (tag_name (name p.design e.entity))

-- The name of a part has no `_`.
abbrev pub has_no_underscore : Name → Bool
has_no_underscore part = list_all (λ b. not (b == byte "_")) part

-- The names of parts are made of letters and digits, without `_`, and differ.
pub record NamesFit (s : NamedSystem) : Type 0 where
  pub inner : (i : ℕ) → i < length s.parts → list_all is_inner (part_at s i).name ≡ true
  pub whole : (i : ℕ) → i < length s.parts → has_no_underscore (part_at s i).name ≡ true
  pub distinct : (i j : ℕ) → i < length s.parts → j < length s.parts → (part_at s i).name ≡ (part_at s j).name → i ≡ j
