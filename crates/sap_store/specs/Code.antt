-- What the parts of the code are seen as.
use Rattle.std.specs.Prelude.{ℕ}
use Rattle.sap_lattice.specs.Levels.{order_of}
use Rattle.sap_meaning.specs.Program.{World}
use Rattle.sap_meaning.specs.Program as program
use Rattle.sap_meaning.specs.Store as meaning
use Rattle.sap_meaning.specs.Checks as checks
use Rattle.sap_program.specs.declared.home.Home.{Home}
use Rattle.sap_program.specs.Views.{count, program_in, home_of}
use Rattle.sap_store.specs.declared.environment.Environment.{Environment}
use Rattle.sap_store.specs.declared.store.Store.{Store}
use Rattle.sap_store.specs.Kept.{store_of}

-- The program that the code runs, with the order of its lattice.
abbrev pub program_of : Environment → program.Program
program_of d = program_in (order_of d.lattice.now) d.program.now

-- What stays while that program runs.
abbrev pub world_in : Environment → World
world_in d = (program_of d).world

-- How many entities there are.
abbrev pub entities_in : Environment → ℕ
entities_in d = count d.program.now

-- The state in whose body a command runs.
abbrev pub home_in : Environment → Home → checks.Home
home_in d at = home_of (entities_in d) at

-- The store that the code's store is seen as.
abbrev pub store_in : Environment → Store → meaning.Store
store_in d s = store_of (world_in d) s
