-- What the program of a design has that the laws of the labelled meaning ask for.
use Rattle.sap_tree.specs.Syntax.{DesignTree}
use Rattle.sap_lattice.specs.Order.{Laws}
use Rattle.sap_lattice.specs.Levels.{Levels, order_of}
use Rattle.sap_shape.specs.WellFormed.{WellFormed}
use Rattle.sap_meaning.specs.Fine.{FineProgram, ExactProgram}
use Rattle.sap_meaning.specs.Sites.{program_sites, RisesFrom}
use Rattle.sap_resolved.specs.Fill.{program_of}

-- The program of a well-formed design is fine.
abbrev pub ProgramsAreFine : Type 0
ProgramsAreFine = (ls : Levels) (d : DesignTree) → Laws (order_of ls) → WellFormed ls d → FineProgram (program_of ls d)

-- In the program of any design each list by which a cycle runs has exactly what its command touches.
abbrev pub ListsAreExact : Type 0
ListsAreExact = (ls : Levels) (d : DesignTree) → ExactProgram (program_of ls d)

-- The check sites of a well-formed design are numbered from 1, and rise in the order of the text.
abbrev pub SitesRise : Type 0
SitesRise = (ls : Levels) (d : DesignTree) → WellFormed ls d → RisesFrom 1 (program_sites (program_of ls d))
