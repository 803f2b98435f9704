-- Worked examples: the rows of small waves.
use Rattle.std.specs.Prelude.{◌≡◌, [], ◌∷◌, codes}
use Rattle.sap_text.specs.Places.{line}
use Rattle.sap_lattice.specs.Examples.{low_high}
use Rattle.sap_wave.specs.Examples.{of_width, wave}
use Rattle.sap_wave.specs.Waves.{Wave}
use Rattle.sap_wave_rows.specs.Rows.{rows_of_wave}

-- Two registers with their tags, one cycle.
abbrev pub Row : Type 0
Row = rows_of_wave low_high wave ≡ line (codes "cycle 1: x=2@low y=1@low")

-- `t_x` hasn't the width of tags, and `v_y` has no tag.
abbrev pub untagged : Wave
untagged =
    record {
      variables = of_width 8 (codes "v_x") ∷ of_width 2 (codes "t_x") ∷ of_width 8 (codes "v_y") ∷ [];
      blocks = (1 ∷ 0 ∷ 2 ∷ []) ∷ (2 ∷ 0 ∷ 1 ∷ []) ∷ [];
    }

-- A wave without tags gives rows that show nothing.
abbrev pub NothingShown : Type 0
NothingShown = rows_of_wave low_high untagged ≡ line (codes "cycle 1:")

-- Block 0 alone has no row.
abbrev pub NoCycle : Type 0
NoCycle = rows_of_wave low_high (record { variables = wave.variables; blocks = (1 ∷ 0 ∷ 2 ∷ 0 ∷ []) ∷ [] }) ≡ []
