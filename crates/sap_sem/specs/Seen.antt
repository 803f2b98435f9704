-- A machine as contracts see it.
use Rattle.std.specs.Prelude.{List, Option, ℕ}
use Rattle.sap_lattice.specs.Levels.{Levels}
use Rattle.sap_program.specs.declared.program.Program.{Program}
use Rattle.sap_store.specs.declared.store.Store.{Store}

-- A machine as contracts see it.
pub record MachineSeen : Type 0 where
  pub lattice : Levels
  pub program : Program
  -- what changes from cycle to cycle
  pub store : Store
  -- at the number of each check site the level at which it was refused in the last cycle, where it was
  pub refusals : List (Option ℕ)
