-- What the parts of the pass's code are seen as.
use Rattle.std.specs.Prelude.{ℕ}
use Rattle.sap_lattice.specs.Levels.{Levels, order_of}
use Rattle.sap_lattice.specs.Codes as codes
use Rattle.sap_meaning.specs.Program.{World}
use Rattle.sap_meaning.specs.Checks as checks
use Rattle.sap_interface.specs.StandsFor.{Named, world}
use Rattle.sap_program.specs.declared.program.Program.{Program}
use Rattle.sap_program.specs.declared.home.Home.{Home}
use Rattle.sap_program.specs.Views.{count, program_in, names_in, home_of}
use Rattle.sap_tagged.specs.Setting as pass
use Rattle.sap_tags_terms.specs.declared.setting.Setting.{Setting}

-- A program with the names of its entities and the codes of levels.
abbrev pub named_over : Levels → Program → Named
named_over ls p = record {
  program = program_in (order_of ls) p;
  names = names_in p;
  code = codes.code_of (order_of ls);
}

-- The design that the pass works on, with its names.
abbrev pub named_in : Setting → Named
named_in s = named_over s.lattice.now s.program.now

-- The width of a tag.
abbrev pub tag_width : Setting → ℕ
tag_width s = codes.width_of (order_of s.lattice.now)

-- What the definitions of tag insertion take, from what the pass holds.
abbrev pub setting_in : Setting → pass.Setting
setting_in s = pass.setting_of (named_in s) (tag_width s)

-- The entities and the lattice that the pass works on.
abbrev pub world_in : Setting → World
world_in s = world (named_in s)

-- How many entities there are.
abbrev pub entities_in : Setting → ℕ
entities_in s = count s.program.now

-- Where a command stands, as the definitions have it.
abbrev pub home_in : Setting → Home → checks.Home
home_in s at = home_of (entities_in s) at
