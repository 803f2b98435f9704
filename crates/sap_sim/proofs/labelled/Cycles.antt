-- The rows of cycles that stand for those of a labelled run.
use Rattle.std.proofs.Common.{◌≡◌, ℕ, ◌+◌, ◌<◌, List, [], ◌∷◌, ◌++◌, length, ap, ap₂, refl, arith}
use Rattle.sap_lattice.specs.Prelude.{Levels, order_of, Codes, code_of}
use Rattle.sap_maps.specs.Maps.{Valuation}
use Rattle.sap_meaning.specs.Prelude.{After, entity}
use Rattle.sap_interface.specs.Prelude.{Named, world, CyclesStand}
use Rattle.sap_stim.specs.Rows.{row_text}
use Rattle.sap_sim.specs.Prelude.{rows_from, rows_of_run}
use Rattle.sap_sim.proofs.labelled.Inputs.{From}
use Rattle.sap_sim.proofs.labelled.Registers.{register_names, shown_row}

pub from_first : (d : Named) → From d 0 (world d).entities
from_first d k = let z : k ≡ 0 + k = omega arith in ap (λ (y : ℕ). entity (world d) y) z

module _ (ls : Levels) (d : Named) (sites : ℕ) (codes : Codes (order_of ls)) (some : 0 < length ls.names) (code : d.code ≡ code_of (order_of ls)) where
  pub rows_stand : (cycle : ℕ) (vs : List Valuation) (run : List After) → CyclesStand d sites vs run
      → rows_from ls (register_names d 0 (world d).entities) cycle vs ≡ rows_of_run ls d cycle run
  rows_stand cycle [] [] h = refl
  rows_stand cycle [] (a ∷ run) h = absurd h
  rows_stand cycle (v ∷ vs) [] h = absurd h
  rows_stand cycle (v ∷ vs) (a ∷ run) h =
      ap₂ (λ (xs ys : List ℕ). xs ++ ys)
      (ap (row_text cycle) (shown_row ls d v a.store codes some code h.0.register_values h.0.register_tags 0 (world d).entities (from_first d)))
      (rows_stand (cycle + 1) vs run h.1)
