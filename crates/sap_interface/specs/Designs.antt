-- The module of a design.
use Rattle.std.specs.Prelude.{ℕ, length, map}
use Rattle.sap_tree.specs.Syntax.{DesignTree}
use Rattle.sap_lattice.specs.Levels.{Levels, order_of}
use Rattle.sap_lattice.specs.Codes.{code_of, width_of}
use Rattle.sap_names.specs.Entities.{entities_of}
use Rattle.sap_shape.specs.Sites.{check_sites}
use Rattle.sap_resolved.specs.Fill.{program_of}
use Rattle.sap_net.specs.Net.{Net}
use Rattle.sap_interface.specs.StandsFor.{Named}
use Rattle.sap_interface.specs.Compiled.{NetStandsFor, NetStartsAs}

-- `named_of` is the program of a design over the levels of a lattice, with the names of its entities and the codes of
-- its levels.
abbrev pub named_of : Levels → DesignTree → Named
named_of ls d = record {
  program = program_of ls d;
  names = map (λ e. e.name.name) (entities_of d);
  code = code_of (order_of ls);
}

-- `site_count_of` says how many check sites a design has.
abbrev pub site_count_of : DesignTree → ℕ
site_count_of d = length (check_sites d)

-- The netlist stands for the design.
abbrev pub StandsForDesign : Levels → DesignTree → Net → Type 0
StandsForDesign ls d n = NetStandsFor (named_of ls d) (width_of (order_of ls)) (site_count_of d) n

-- The netlist starts as the design does.
abbrev pub StartsAsDesign : Levels → DesignTree → Net → Type 0
StartsAsDesign ls d n = NetStartsAs (named_of ls d) (site_count_of d) n
