-- What files contain: values that their bytes stand for, as the lattice of a lattice file and the design of a design
-- file.
use Rattle.std.specs.Prelude.{◌≡◌, ℕ, Bool, List, length, map, Some}
use Rattle.sap_desk.specs.Desk.{Told}
use Rattle.sap_lattice.specs.Levels.{Levels, numbers, order_of}
use Rattle.sap_latfile.specs.LatticeFile.{IsLatticeOfFile}
use Rattle.sap_tree.specs.Syntax.{DesignTree}
use Rattle.sap_parse.specs.Text.{IsText}
use Rattle.sap_shape.specs.WellFormed.{WellFormed}

-- There is a file of this name, and its bytes stand for this value, as this relation has it.
pub record Has {V : Type 0} (t : Told) (name : List ℕ) (Stands : List ℕ → V → Type 0) (v : V) : Type 0 where
  pub bytes : List ℕ
  pub file : t.files name ≡ Some bytes
  pub stands : Stands bytes v

-- `table_by` is the table of an order on so many levels, with a row for each level and in it a place for each.
abbrev pub table_by : ℕ → (ℕ → ℕ → Bool) → List (List Bool)
table_by count le = map (λ x. map (le x) (numbers count)) (numbers count)

-- The bytes are a lattice file with these levels. The table of `ls` has one row for each level, and one place in it for
-- each, so a file has one such value.
pub record IsLatticeFile (bytes : List ℕ) (ls : Levels) : Type 0 where
  pub lattice : IsLatticeOfFile bytes ls
  pub table : ls.table ≡ table_by (length ls.names) (order_of ls).le

-- The text is that of a design, and the design is well formed over these levels.
pub record IsWellFormedText (ls : Levels) (source : List ℕ) (d : DesignTree) : Type 0 where
  pub is_text : IsText source d
  pub well_formed : WellFormed ls d
