-- Where the number of an input comes from, by the places of fields in a line; and what is seen at places of a runner.
use Rattle.std.specs.Prelude.{◌≡◌, ◌<◌, ℕ, List, [], map, length, get_or, All, if◌then◌else◌}
use Rattle.sap_lattice.specs.Levels.{Levels, order_of}
use Rattle.sap_lattice.specs.Codes.{code_of}
use Rattle.sap_maps.specs.Maps.{Name, Valuation}
use Rattle.sap_meaning.specs.Cycle.{Tagged as Given}
use Rattle.sap_net.specs.declared.parts.Input.{Input}
use Rattle.sap_net.specs.Net.{Net}
use Rattle.sap_cycle.specs.Running.{value_names}
use Rattle.sap_stim.specs.Rows.{AreLevelTexts}
use Rattle.sap_sim.specs.declared.sources.Source.{Source}
use Rattle.sap_sim.specs.declared.sources.Source.TheVariants.{Value, Code}
use Rattle.sap_sim.specs.declared.steps.Plan.{Plan}
use Rattle.sap_net.specs.PortNames.{value_name, tag_name}
use Rattle.sap_sim.specs.Fields.{tag_width, is_tag}
use Rattle.sap_sim.specs.Shown.{shown_registers}
use Rattle.sap_sim.specs.Numbers.{place, field_names, nothing, value_for}

-- Where an input's number comes from: the number of a field, or its level's code.
abbrev pub source_of : (tag : ℕ) → List Input → Input → Source
source_of tag is i =
    if is_tag tag is i then Code (place (field_names tag is) (value_for i.name))
    else Value (place (field_names tag is) i.name)

-- The field that a source reads.
abbrev pub source_place : Source → ℕ
source_place (Value k) = k
source_place (Code k) = k

-- The number that a source gives.
abbrev pub number_from : Levels → List Given → Source → ℕ
number_from ls xs (Value k) = (get_or xs k nothing).number
number_from ls xs (Code k) = code_of (order_of ls) (get_or xs k nothing).level

-- The places of these names.
pub record ArePlaces (n : Net) (names : List Name) (places : List ℕ) : Type 0 where
  pub within : All (λ k. k < length (value_names n)) places
  pub names_are : map (λ k. get_or (value_names n) k []) places ≡ names

-- The numbers that are seen at places.
abbrev pub seen_at : Net → Valuation → List ℕ → List ℕ
seen_at n v places = map (λ k. v.value (get_or (value_names n) k [])) places

-- The plan of a netlist: the sources of the numbers of its inputs, and the registers that rows show, with the places of
-- their numbers and tags, and texts of levels.
pub record IsPlan (ls : Levels) (n : Net) (p : Plan) : Type 0 where
  pub sources : p.sources.items ≡ map (source_of (tag_width ls) n.inputs) n.inputs
  pub names : p.shown.names.items ≡ shown_registers ls n
  pub values : ArePlaces n (map value_name p.shown.names.items) p.shown.values.items
  pub tags : ArePlaces n (map tag_name p.shown.names.items) p.shown.tags.items
  pub levels : AreLevelTexts ls p.levels.items
