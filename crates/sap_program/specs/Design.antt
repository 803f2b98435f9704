-- The program of a design, as data.
use Rattle.std.specs.Prelude.{◌≡◌, length, map}
use Rattle.sap_lattice.specs.Levels.{Levels, order_of}
use Rattle.sap_tree.specs.Syntax.{DesignTree}
use Rattle.sap_names.specs.Entities.{entities_of}
use Rattle.sap_resolved.specs.Fill.{program_of}
use Rattle.sap_shape.specs.Sites.{check_sites}
use Rattle.sap_program.specs.declared.program.Program.{Program}
use Rattle.sap_program.specs.Views.{program_in, names_in}

-- The stored program is the program of the design over these levels, with the names of the design's entities and the
-- number of its check sites.
pub record IsProgramOf (ls : Levels) (d : DesignTree) (p : Program) : Type 0 where
  pub program : program_in (order_of ls) p ≡ program_of ls d
  pub names : names_in p ≡ map (λ e. e.name.name) (entities_of d)
  pub sites : p.sites ≡ length (check_sites d)
