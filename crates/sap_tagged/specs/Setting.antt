-- What a plain program takes of a design.
use Rattle.std.specs.Prelude.{ℕ}
use Rattle.sap_maps.specs.Maps.{Name}
use Rattle.sap_meaning.specs.Program.{World}
use Rattle.sap_interface.specs.StandsFor.{Named, world}
use Rattle.sap_tagged.specs.Keys.{Key, entity_word, key_name}

-- `code` has the code of each level, `tag` is the width of tags.
pub record Setting : Type 0 where
  pub world : World
  pub code : ℕ → ℕ
  pub tag : ℕ
  pub name : Key → Name
  pub state_name : ℕ → Name

-- What a design's plain program is made from: its entities, codes of levels, width of tags and names.
abbrev pub setting_of : Named → (tag : ℕ) → Setting
setting_of d tag = record { world = world d; code = d.code; tag = tag; name = key_name d; state_name = entity_word d }
