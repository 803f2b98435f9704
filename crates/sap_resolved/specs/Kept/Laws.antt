-- Resolving keeps a design, and what hangs in it.
use Rattle.std.specs.Prelude.{◌≡◌, ℕ, List, [], length}
use Rattle.sap_tree.specs.Syntax.{DesignTree}
use Rattle.sap_lattice.specs.Levels.{Levels, order_of}
use Rattle.sap_tree.specs.Touches.{root_touches}
use Rattle.sap_names.specs.Entities.{entities_of}
use Rattle.sap_names.specs.NameFaults.{design_name_faults}
use Rattle.sap_meaning.specs.Program.{root}
use Rattle.sap_resolved.specs.Fill.{program_of}
use Rattle.sap_resolved.specs.Kept.Hangs.{group_rows, row_of, rows_of}
use Rattle.sap_resolved.specs.Kept.Kept.{IsNamed, AreDeclared, IsGroup}

-- The program has the design's declarations and its states, with all that stands in them, and no other entities; and no
-- two entities have one name.
pub record IsKept (ls : Levels) (d : DesignTree) : Type 0 where
  pub declarations : AreDeclared ls (entities_of d) (program_of ls d).world 0 d.declarations
  pub states : IsGroup ls (entities_of d) (program_of ls d).world d.states (program_of ls d).states
  pub entities : root (program_of ls d).world ≡ length (entities_of d)
  pub one_name : (x y : ℕ) (name : List ℕ) → IsNamed (entities_of d) x name → IsNamed (entities_of d) y name → x ≡ y

-- The program of a design keeps the design, if it has no fault of names and widths.
abbrev pub ResolvingKeeps : Type 0
ResolvingKeeps = (ls : Levels) (d : DesignTree) → design_name_faults ls.names (order_of ls).le d ≡ [] → IsKept ls d

-- If a design has no fault of names and widths, the lists of its program, in the order of the points, have exactly what
-- the commands at the points touch in the tree, entity by entity. The root's list has what the root's fall touches.
abbrev pub HangsAgree : Type 0
HangsAgree = (ls : Levels) (d : DesignTree) → design_name_faults ls.names (order_of ls).le d ≡ []
    → (group_rows (program_of ls d).states ≡ rows_of d)
    × ((program_of ls d).hang ≡ row_of (entities_of d) (root_touches d))
