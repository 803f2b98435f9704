-- How many bytes the lines of a trace take at most.
use Rattle.std.specs.Prelude.{ℕ, ◌+◌, ◌*◌, ◌^◌, ◌<◌, ◌≤◌, List, codes, length}
use Rattle.std.specs.Fmt.{decimal}
use Rattle.sap_lattice.specs.Levels.{Levels}
use Rattle.sap_tree.specs.Syntax.{DesignTree}
use Rattle.sap_names.specs.Entities.{entities_of}
use Rattle.sap_check.specs.Sites.{sites_of}
use Rattle.sap_sim.specs.Labelled.LabelledRows.{level_name}
use Rattle.sap_text.specs.Places.{line_end}
use Rattle.sap_trace.specs.Lines.{site_at, target_text}
use Rattle.sap_trace.specs.Seen.{coded_name}

-- The line of a site, whatever its cycle: the number of a cycle is counted as 20 digits.
abbrev pub site_room : DesignTree → (k : ℕ) → (level : List ℕ) → ℕ
site_room d k level =
    length (codes "cycle ") + 20 + length (codes ": site ") + length (decimal k) + length (codes " ")
    + length (target_text (entities_of d) (site_at d k)) + length (codes " at ") + length level + length line_end

-- So many bytes are enough for the line of any site, at any level and for any code on its wire.
pub record HoldsLine (ls : Levels) (d : DesignTree) (room : ℕ) : Type 0 where
  pub level : (k l : ℕ) → 1 ≤ k → k ≤ length (sites_of d) → site_room d k (level_name ls l) ≤ room
  pub code : (k tag : ℕ) → 1 ≤ k → k ≤ length (sites_of d) → tag < 2 ^ 64 → site_room d k (coded_name ls tag) ≤ room

-- And so many for the lines of all sites, each in a cycle at most once.
pub record HoldsCycle (ls : Levels) (d : DesignTree) (room : ℕ) : Type 0 where
  pub line : ℕ
  pub holds : HoldsLine ls d line
  pub all : length (sites_of d) * line ≤ room
