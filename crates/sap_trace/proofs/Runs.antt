-- The lines of a netlist's run, cycle by cycle, and those of the labelled run for which it stands.
use Rattle.std.proofs.Common.{◌≡◌, ℕ, ◌+◌, ◌<◌, List, [], ◌∷◌, ◌++◌, length, map, refl, sym, ap₂}
use Rattle.sap_tree.specs.Syntax.{DesignTree}
use Rattle.sap_lattice.specs.Prelude.{Levels, order_of, Codes}
use Rattle.sap_maps.specs.Maps.{Valuation}
use Rattle.sap_meaning.specs.Prelude.{Store, After, Tagged, cycle, run_from, program_sites, refused_sites, Sublist}
use Rattle.sap_net.specs.Prelude.{Net, observed}
use Rattle.sap_interface.specs.Prelude.{CyclesStand, named_of}
use Rattle.sap_interface.specs.Designs as interface
use Rattle.sap_resolved.specs.Fill.{program_of}
use Rattle.sap_secure.specs.CheckSites.Numbering.{OneNumbering}
use Rattle.sap_trace.specs.Lines.{trace_of_run}
use Rattle.sap_trace.specs.Seen.{lines_from}
use Rattle.sap_trace.proofs.Seen.{lines_told}

module _ (ls : Levels) (d : DesignTree) (codes : Codes (order_of ls)) (some : 0 < length ls.names) (one : OneNumbering ls d) (n : Net)
    (in_order : (inputs : List Tagged) (s : Store) → Sublist (refused_sites (cycle (program_of ls d) inputs s).refused) (program_sites (program_of ls d))) where
  -- the lines of cycles that stand for those of a run
  pub lines_stand : (c : ℕ) (vs : List Valuation) (stream : List (List Tagged)) (s : Store)
      → CyclesStand (named_of ls d) (interface.site_count_of d) (map (observed n) vs) (run_from (program_of ls d) s stream)
      → lines_from ls d c (map (observed n) vs) ≡ trace_of_run ls d c (run_from (program_of ls d) s stream)
  lines_stand c [] [] s h = refl
  lines_stand c [] (xs ∷ stream) s h = absurd h
  lines_stand c (v ∷ vs) [] s h = absurd h
  lines_stand c (v ∷ vs) (xs ∷ stream) s h =
      let a : After = cycle (program_of ls d) xs s in
      ap₂ (λ (ys zs : List ℕ). ys ++ zs)
      (sym (lines_told ls d codes some c (observed n v) one a.store a.refused h.0 (in_order xs s)))
      (lines_stand (c + 1) vs stream a.store h.1)
