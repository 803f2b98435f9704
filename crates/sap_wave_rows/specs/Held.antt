-- What the rows of a wave are made with.
use Rattle.std.specs.Prelude.{◌≡◌, List, length}
use Rattle.sap_lattice.specs.Levels.{Levels}
use Rattle.sap_maps.specs.Maps.{Name}
use Rattle.sap_stim.specs.Rows.{AreLevelTexts, HoldsRows}
use Rattle.sap_wave_rows.specs.declared.rows.Held.{Held}

-- The labels of these names, texts of levels, a number and a tag for each name, and room for any row.
pub record IsHeld (ls : Levels) (names : List Name) (h : Held) : Type 0 where
  pub labels : h.labels.items ≡ names
  pub levels : AreLevelTexts ls h.levels.items
  pub values : length h.values.items ≡ length names
  pub tags : length h.tags.items ≡ length names
  pub room : HoldsRows ls names h.row.room
