-- Rows, a block at a time.
use Rattle.sap_lemmas.proofs.Common.{◌≡◌, ℕ, ◌+◌, ◌<◌, ◌≤◌, List, [], ◌++◌, length, get_or, map, sym, ap, ◌∙◌, arith, at_drop_all, at_drop_more}
use Rattle.sap_lattice.specs.Levels.{Levels}
use Rattle.sap_maps.specs.Maps.{Name}
use Rattle.sap_net.specs.PortNames.{value_name, tag_name}
use Rattle.sap_stim.specs.Rows.{HoldsRows, row_text, shown_of}
use Rattle.sap_sim.specs.Prelude.{row_of, rows_from, place}
use Rattle.sap_sim.proofs.Seen.{map_twice, row_is}
use Rattle.sap_wave.specs.declared.variable.Variable.{Variable}
use Rattle.sap_wave.specs.Waves.{Wave, names_of}
use Rattle.sap_wave_rows.specs.Places.{value_places, tag_places, numbers_at}
use Rattle.sap_wave_rows.specs.Rows.{by_name, rows_of_blocks, shown_variables}

-- the row of a block, by the numbers at the places of what it shows
pub row_at : (ls : Levels) (cycle : ℕ) (vs : List Variable) (numbers : List ℕ) (xs names : List Name) (value_at tag_at values tags : List ℕ) → names ≡ xs
    → values ≡ numbers_at numbers value_at → tags ≡ numbers_at numbers tag_at → value_at ≡ value_places vs xs → tag_at ≡ tag_places vs xs
    → row_text cycle (shown_of ls names values tags) ≡ row_of ls xs cycle (by_name vs numbers)
row_at ls cycle vs numbers xs names value_at tag_at values tags same e f g h =
    row_is ls cycle (by_name vs numbers) xs names values tags same
    (e ∙ ap (numbers_at numbers) g ∙ map_twice (λ k. get_or numbers k 0) (λ x. place (names_of vs) (value_name x)) xs)
    (f ∙ ap (numbers_at numbers) h ∙ map_twice (λ k. get_or numbers k 0) (λ x. place (names_of vs) (tag_name x)) xs)

-- the rows from a block on begin with its row
pub first_row : (ls : Levels) (w : Wave) (xs : List Name) (k : ℕ) (numbers : List ℕ) → xs ≡ shown_variables ls w.variables → k < length w.blocks
    → numbers ≡ get_or w.blocks k numbers → rows_of_blocks ls w k ≡ row_of ls xs k (by_name w.variables numbers) ++ rows_of_blocks ls w (k + 1)
first_row ls w xs k numbers names h e =
    let shown = shown_variables ls w.variables in
    let rest = rows_of_blocks ls w (k + 1) in
    at_drop_more (λ (bs : List (List ℕ)). rows_from ls shown k (map (by_name w.variables) bs)) w.blocks k numbers h
    ∙ ap (λ (ns : List ℕ). row_of ls shown k (by_name w.variables ns) ++ rest) (sym e)
    ∙ ap (λ (ys : List Name). row_of ls ys k (by_name w.variables numbers) ++ rest) (sym names)

-- and none is behind the last
pub no_row : (ls : Levels) (w : Wave) (k : ℕ) → length w.blocks ≤ k → rows_of_blocks ls w k ≡ []
no_row ls w k l = at_drop_all (λ (bs : List (List ℕ)). rows_from ls (shown_variables ls w.variables) k (map (by_name w.variables) bs)) w.blocks k l

-- more room holds any row too
pub more_room : (ls : Levels) (names : List Name) (room more : ℕ) → HoldsRows ls names room → room ≤ more → HoldsRows ls names more
more_room ls names room more holds l = λ values tags a b. let fits = holds values tags a b in omega (arith, fits, l)
