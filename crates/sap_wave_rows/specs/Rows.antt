-- The rows of a wave: one for each block from block 1 on, of each x with a variable `v_x` and a variable `t_x` of the
-- width of tags.
use Rattle.std.specs.Prelude.{ℕ, List, map, drop, get_or}
use Rattle.sap_lattice.specs.Levels.{Levels}
use Rattle.sap_maps.specs.Maps.{Name, Valuation}
use Rattle.sap_maps.specs.Scope.{Scope}
use Rattle.sap_net.specs.Shown.{shown_among}
use Rattle.sap_sim.specs.Fields.{tag_width}
use Rattle.sap_sim.specs.Numbers.{place}
use Rattle.sap_sim.specs.Shown.{rows_from}
use Rattle.sap_wave.specs.declared.variable.Variable.{Variable}
use Rattle.sap_wave.specs.Waves.{Wave, names_of}

-- Variables with their widths.
abbrev pub widths_of : List Variable → Scope
widths_of xs = map (λ x. (x.name, x.width)) xs

-- Each x with a variable `v_x` that has such a `t_x`, in their order.
abbrev pub shown_variables : Levels → List Variable → List Name
shown_variables ls xs = shown_among (tag_width ls) (widths_of xs) (names_of xs)

-- The numbers of the variables after a block, by name; 0 for a name that none has.
abbrev pub by_name : List Variable → (numbers : List ℕ) → Valuation
by_name xs numbers = record { value = λ x. get_or numbers (place (names_of xs) x) 0; cell = λ x i. 0 }

-- Block N has the row of cycle N, as rows of cycles are: the rows from a block on.
abbrev pub rows_of_blocks : Levels → Wave → (first : ℕ) → List ℕ
rows_of_blocks ls w first = rows_from ls (shown_variables ls w.variables) first
    (map (by_name w.variables) (drop first w.blocks))

-- And all rows.
abbrev pub rows_of_wave : Levels → Wave → List ℕ
rows_of_wave ls w = rows_of_blocks ls w 1
