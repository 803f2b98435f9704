-- With which numbers a plain program starts, and when it starts as a design does.
use Rattle.std.specs.Prelude.{[], None}
use Rattle.sap_maps.specs.Maps.{Valuation}
use Rattle.sap_tree.specs.Syntax.{DesignTree}
use Rattle.sap_lattice.specs.Levels.{Levels}
use Rattle.sap_meaning.specs.State.{first}
use Rattle.sap_ir.specs.Guarded.{register_number, cell_at_start}
use Rattle.sap_ir.specs.Plain.Nested.{Nested}
use Rattle.sap_interface.specs.StandsFor.{world, StandsFor}
use Rattle.sap_interface.specs.Designs.{named_of, site_count_of}

-- The numbers before the first cycle: registers and memories have their starts, all else is 0.
abbrev pub plain_initial : Nested → Valuation
plain_initial p = record { value = register_number None p.registers; cell = cell_at_start None p.memories }

-- They stand for the design's first state, with nothing refused.
abbrev pub PlainStartsAsDesign : Levels → DesignTree → Nested → Type 0
PlainStartsAsDesign ls d p = StandsFor (named_of ls d) (site_count_of d) (plain_initial p)
    (first (world (named_of ls d))) []
