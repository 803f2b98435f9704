-- The rows of a wave that are given one after another.
use Rattle.std.specs.Prelude.{◌≡◌, ℕ, List}
use Rattle.sap_lattice.specs.Levels.{Levels}
use Rattle.sap_wave.specs.declared.variable.Variable.{Variable}
use Rattle.sap_wave_rows.specs.Held.{IsHeld}
use Rattle.sap_wave_rows.specs.Places.{tag_places, value_places}
use Rattle.sap_wave_rows.specs.Rows.{shown_variables}
use Rattle.sap_wave_rows.specs.declared.rows.Held.{Held}
use Rattle.sap_wave_rows.specs.declared.shown.Shown.{Shown}

-- The row that was made last, the text of those still to come, and how many these are.
pub record RowsToCome : Type 0 where
  pub made : List ℕ
  pub text : List ℕ
  pub count : ℕ

-- They show each x that a wave with these variables shows, at the places of its variables.
pub record ShowsWave (ls : Levels) (vs : List Variable) (shown : Shown) (h : Held) : Type 0 where
  pub names : shown.names.items ≡ shown_variables ls vs
  pub values : shown.values.items ≡ value_places vs shown.names.items
  pub tags : shown.tags.items ≡ tag_places vs shown.names.items
  pub held : IsHeld ls shown.names.items h
