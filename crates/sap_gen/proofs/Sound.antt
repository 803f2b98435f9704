-- The generated design is whole, and well formed over the lattice of the generated run.
use Rattle.std.proofs.Common.{◌≡◌, ℕ, ◌<◌, ◌≤◌, true, List, [], sym, subst, arith}
use Rattle.sap_lattice.specs.Prelude.{Levels, order_of, level_names}
use Rattle.sap_tree.specs.Whole.{is_whole}
use Rattle.sap_names.specs.NameFaults.{design_name_faults}
use Rattle.sap_shape.specs.WellFormed.{WellFormed}
use Rattle.sap_gen.specs.Design.{design_of_counts, generated_design, register_count, state_count}
use Rattle.sap_gen.proofs.Faultless.{names_faultless}
use Rattle.sap_gen.proofs.Shapes.{has_shape}
use Rattle.sap_gen.proofs.Trees.{tree_is_whole}

pub design_is_whole : (n : ℕ) → is_whole (generated_design n) ≡ true
unfolding generated_design
design_is_whole n = tree_is_whole (register_count n) (state_count n) (omega arith) (omega arith) (omega arith) (omega arith)

pub size_well_formed : (ls : Levels) → ls.names ≡ level_names → (r t : ℕ) → 0 < r → r ≤ 61 → 0 < t → t ≤ 31 → WellFormed ls (design_of_counts r t)
size_well_formed ls e r t some few more short = record {
  names = subst (λ (names : List (List ℕ)). design_name_faults names (order_of ls).le (design_of_counts r t) ≡ []) (sym e)
      (names_faultless (order_of ls).le r t some (omega arith) more (omega arith));
  shape = has_shape r t more;
}

pub well_formed : (ls : Levels) → ls.names ≡ level_names → (n : ℕ) → WellFormed ls (generated_design n)
unfolding generated_design
well_formed ls e n = size_well_formed ls e (register_count n) (state_count n) (omega arith) (omega arith) (omega arith) (omega arith)
