-- The rows of a run as a wave are the rows of the run.
use Rattle.sap_lemmas.proofs.Common.{true, ◌≡◌, ℕ, ◌+◌, List, [], ◌∷◌, ◌++◌, map, refl, ap, ap₂, ◌∙◌, AllByRecursion}
use Rattle.sap_lattice.specs.Levels.{Levels}
use Rattle.sap_maps.specs.Maps.{Name, Valuation}
use Rattle.sap_net.specs.Prelude.{is_among, Net, observed, value_name, tag_name, register_ports}
use Rattle.sap_sim.specs.Prelude.{tag_width, row_of, rows_from, shown_registers}
use Rattle.sap_sim.proofs.Registers.{IsShown, all_shown}
use Rattle.sap_sim.proofs.Seen.{row_is}
use Rattle.sap_wave.specs.Prelude.{OneWaveOrFault, RunsReadBack, run_dump, run_wave, variables_of, numbers_after}
use Rattle.sap_wave_rows.specs.Laws.{RowsOfRuns, RowsOfDumps}
use Rattle.sap_wave_rows.specs.Rows.{by_name, rows_of_wave}
use Rattle.sap_wave_rows.proofs.Variables.{shown_are, number_seen}

all_same : (P : Name → Type 0) (f g : Name → ℕ) (xs : List Name) → ((x : Name) → P x → f x ≡ g x) → AllByRecursion P xs → map f xs ≡ map g xs
all_same P f g [] h a = refl
all_same P f g (x ∷ xs) h a = ap₂ (λ (y : ℕ) (ys : List ℕ). y ∷ ys) (h x a.0) (all_same P f g xs h a.1)

module _ (ls : Levels) (n : Net) where
  abbrev shown : List Name
  shown = shown_registers ls n

  -- what agrees at the ports has the same row
  pub row_agrees : (cycle : ℕ) (v w : Valuation) → ((y : Name) → is_among y (register_ports n.ports) ≡ true → v.value y ≡ w.value y)
      → row_of ls shown cycle v ≡ row_of ls shown cycle w
  row_agrees cycle v w agree =
      let ports = register_ports n.ports in
      let all = all_shown (tag_width ls) n ports in
      row_is ls cycle w shown shown (map (λ x. v.value (value_name x)) shown) (map (λ x. v.value (tag_name x)) shown) refl
      (all_same (IsShown ports ports) (λ x. v.value (value_name x)) (λ x. w.value (value_name x)) shown (λ x h. agree (value_name x) h.0) all)
      (all_same (IsShown ports ports) (λ x. v.value (tag_name x)) (λ x. w.value (tag_name x)) shown (λ x h. agree (tag_name x) h.1) all)

  same_rows : (cycle : ℕ) (vs : List Valuation) → rows_from ls shown cycle (map (by_name (variables_of n)) (map (numbers_after n) vs))
      ≡ rows_from ls shown cycle (map (observed n) vs)
  same_rows cycle [] = refl
  same_rows cycle (v ∷ vs) = ap₂ (λ (row rows : List ℕ). row ++ rows)
      (row_agrees cycle (by_name (variables_of n) (numbers_after n v)) (observed n v) (number_seen n v)) (same_rows (cycle + 1) vs)

pub rows_of_runs : RowsOfRuns
rows_of_runs ls n vs =
    ap (λ (xs : List Name). rows_from ls xs 1 (map (by_name (variables_of n)) (map (numbers_after n) vs))) (shown_are ls n) ∙ same_rows ls n 1 vs

pub rows_of_dumps : OneWaveOrFault → RunsReadBack → RowsOfDumps
rows_of_dumps one back ls n xss vs w rules run reading =
    ap (rows_of_wave ls) (one.one_wave (run_dump n vs) w (run_wave n vs) reading (back n xss vs rules run)) ∙ rows_of_runs ls n vs
