-- Design files checked over the levels of a lattice file, and how a command goes on after one.
use Rattle.std.proofs.Common.{◌≡◌, ℕ, List, sym, subst}
use Rattle.sap_lattice.specs.Levels.{Levels}
use Rattle.sap_latfile.specs.OneLattice.{AreSame}
use Rattle.sap_tree.specs.Syntax.{DesignTree}
use Rattle.sap_check.specs.Checked.{levels_in, tree_in}
use Rattle.sap_check.specs.declared.checked.Checked.{Checked}
use Rattle.sap_files.specs.Prelude.{Ending, IsWellFormedText, design_file, Asks, file, Ends, Moment, Reads}
use Rattle.sap_files.proofs.Designs.{text_in}
use Rattle.sap_files.proofs.Ended.{past}

-- the design of a file that was read, checked over these levels
abbrev pub HasDesign : Levels → (name : List ℕ) → Checked → Moment → Moment → Type 0
HasDesign l name checked a b = (source : List ℕ) × Reads name source a b × IsWellFormedText l source (tree_in checked) × (levels_in checked ≡ l)

-- its levels are those of the lattice file
pub levels_same : {name : List ℕ} {a b : Moment} (l m : Levels) (checked : Checked) → AreSame l m → HasDesign l name checked a b → AreSame (levels_in checked) m
levels_same l m checked same (source, reads, formed, levels) = subst (λ (k : Levels). AreSame k m) (sym levels) same

-- a command that has read it goes on, over the levels of the lattice file
pub checked_past : {name : List ℕ} {rest : DesignTree → Asks} {e : Ending} {a b c : Moment} (l m : Levels) (checked : Checked) → AreSame l m
    → HasDesign l name checked a b → Ends (rest (tree_in checked)) e b c → Ends (file name (design_file m) rest) e a c
checked_past l m checked same (source, reads, formed, levels) rest = past (tree_in checked) reads (text_in l m source (tree_in checked) same formed) rest
