-- What the program of a design has where no fault of names and widths stands in the design.
use Rattle.std.specs.Prelude.{◌≡◌, [], true}
use Rattle.sap_tree.specs.Syntax.{DesignTree}
use Rattle.sap_tree.specs.Whole.{is_tree}
use Rattle.sap_lattice.specs.Order.{Laws}
use Rattle.sap_lattice.specs.Levels.{Levels, order_of}
use Rattle.sap_names.specs.NameFaults.{design_name_faults}
use Rattle.sap_meaning.specs.Sized.{SizedProgram}
use Rattle.sap_resolved.specs.WellNamed.{WellNamedGroup}
use Rattle.sap_resolved.specs.Fill.{program_of}
use Rattle.sap_resolved.specs.Sized.Ranges.{RangedProgram}

-- Each name is that of an entity of the kind that its place asks for, and each written level is one of the lattice.
abbrev pub NamesFit : Type 0
NamesFit = (ls : Levels) (d : DesignTree) → Laws (order_of ls) → design_name_faults ls.names (order_of ls).le d ≡ []
    → WellNamedGroup (program_of ls d).world (program_of ls d).states

-- The widths of expressions fit where they stand, and one another, and what the entities start with fits them.
abbrev pub SizesFit : Type 0
SizesFit = (ls : Levels) (d : DesignTree) → Laws (order_of ls) → design_name_faults ls.names (order_of ls).le d ≡ []
    → SizedProgram (program_of ls d)

-- Take a design whose tree the grammar has and that has no fault of names and widths. In its program all widths are
-- from 1 to 64, slices are within their operands, and memories have depths that they can have.
abbrev pub WidthsInRange : Type 0
WidthsInRange = (ls : Levels) (d : DesignTree) → is_tree d ≡ true → design_name_faults ls.names (order_of ls).le d ≡ []
    → RangedProgram (program_of ls d)
