-- The wires that texts stand for, by the numbers of parts, entities and levels.
use Rattle.std.specs.Prelude.{◌≡◌, ◌<◌, ℕ, List, length, map, Option, Some, None, Vec, Bool}
use Rattle.std.specs.Global.{Global}
use Rattle.std.specs.List.{AllZip, list_any}
use Rattle.std.specs.Str.{bytes_eq}
use Rattle.sap_lattice.specs.Levels.{level_named}
use Rattle.sap_names.specs.Entities.{number_of}
use Rattle.sap_names.specs.declared.kind.Declared.{Declared}
use Rattle.sap_names.specs.declared.kind.Declared.TheVariants as what
use Rattle.sap_system.specs.Rules.{BadPartName}
use Rattle.sap_system.specs.Wires.{NamedPart, Surroundings, Names}
use Rattle.sap_system.specs.declared.file.WireText.{WireText}
use Rattle.sap_link.specs.Systems.{Endpoint, Wire}
use Rattle.sap_wiring.specs.declared.surroundings.PartNames.{PartNames}
use Rattle.sap_wiring.specs.declared.surroundings.Surroundings as code

-- A part's name and entities, as the definitions have them.
abbrev pub named_part : PartNames → NamedPart
named_part p = record { name = p.name.now; entities = p.names.now }

-- What the code holds wires against.
abbrev pub seen : code.Surroundings → Surroundings
seen around = record { parts = map named_part around.parts.now; levels = around.lattice.now.names }

-- The names of the parts.
abbrev pub names_in : Surroundings → List (List ℕ)
names_in u = map (λ (p : NamedPart). p.name) u.parts

-- Each part has a name that it may have at its place.
abbrev pub PartsNamed : Surroundings → Type 0
PartsNamed u = (k : ℕ) → k < length u.parts → ¬ BadPartName (names_in u) k

-- The text names the entity of this number in the part of this number, which is declared so.
pub record IsEndpoint (u : Surroundings) (text : List ℕ) (declared : Declared) (e : Endpoint) : Type 0 where
  pub entity : List ℕ
  pub names : Names u text e.part entity declared
  pub number : number_of names.part.entities entity ≡ Some e.entity

-- The level of a wire without a third text, and of one with it.
abbrev pub IsLevelOf : Surroundings → Option (List ℕ) → Option ℕ → Type 0
IsLevelOf u None level = level ≡ None
IsLevelOf u (Some name) level = (t : ℕ) × (level_named u.levels name ≡ Some t) × (level ≡ Some t)

-- It leads from the register that the first text names to the input, as wide, that the second names, through the level
-- of the third.
pub record IsWireOf (u : Surroundings) (text : WireText) (w : Wire) : Type 0 where
  pub width : ℕ
  pub from : IsEndpoint u text.from (what.Register width) w.from
  pub to : IsEndpoint u text.to (what.Input width) w.to
  pub level : IsLevelOf u text.level w.level

-- One for each text, in order.
abbrev pub AreWiresOf : Surroundings → List WireText → List Wire → Type 0
AreWiresOf u texts wires = AllZip (IsWireOf u) texts wires

-- The text of an input is among those of inputs that are fed.
abbrev pub is_fed : List (Vec ℕ Global) → List ℕ → Bool
is_fed fed name = list_any (λ (key : Vec ℕ Global). bytes_eq name key.items) fed
