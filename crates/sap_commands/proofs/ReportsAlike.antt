-- Two lattices that are the same give a design the same report.
use Rattle.std.proofs.Common.{◌≡◌, ℕ, ◌+◌, List, [], ◌∷◌, ◌++◌, refl, ◌∙◌, ap}
use Rattle.sap_lattice.specs.Prelude.{Levels, order_of, Order, code_of}
use Rattle.sap_latfile.specs.OneLattice.{AreSame}
use Rattle.sap_tree.specs.Syntax.{DesignTree}
use Rattle.sap_names.specs.Entities.{entities_of}
use Rattle.sap_check.specs.Points.{points_of}
use Rattle.sap_check.specs.Sites.{sites_of}
use Rattle.sap_report.specs.Report.{level_line, level_lines, point_lines, report_text, site_lines}

module _ (l m : Levels) (same : AreSame l m) where
  line_in : (k : ℕ) (name : List ℕ) → level_line name (code_of (order_of l) k) ≡ level_line name (code_of (order_of m) k)
  line_in k name = ap (λ (o : Order). level_line name (code_of o k)) same.order

  lines_in : (k : ℕ) (names : List (List ℕ)) → level_lines l k names ≡ level_lines m k names
  lines_in k [] = refl
  lines_in k (name ∷ names) =
      ap (λ (text : List ℕ). text ++ level_lines l (k + 1) names) (line_in k name)
      ∙ ap (λ (text : List ℕ). level_line name (code_of (order_of m) k) ++ text) (lines_in (k + 1) names)

  pub reports_same : (d : DesignTree) → report_text l d ≡ report_text m d
  reports_same d =
      let P : List ℕ → List ℕ = λ text. text ++ point_lines d 1 (points_of d) ++ site_lines (entities_of d) 1 (sites_of d) in
      ap P (lines_in 0 l.names) ∙ ap (λ (names : List (List ℕ)). P (level_lines m 0 names)) same.names
