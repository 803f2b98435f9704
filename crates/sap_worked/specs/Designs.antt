-- The program of a design of version 2, with a `then` and a `case`.
use Rattle.sap_lattice.specs.Examples.{low_high}
use Rattle.sap_shape.specs.Examples.{decided}
use Rattle.sap_meaning.specs.Program.{Program}
use Rattle.sap_meaning.specs.Fine.{FineProgram, ExactProgram}
use Rattle.sap_meaning.specs.Sites.{RisesFrom, program_sites}
use Rattle.sap_resolved.specs.Fill.{program_of}

-- The program of the design that decides by an outcome.
abbrev pub decided_program : Program
decided_program = program_of low_high decided

-- The program has all that the laws ask for.
pub record DecidedServes : Type 0 where
  pub fine : FineProgram decided_program
  pub exact : ExactProgram decided_program
  pub sites : RisesFrom 1 (program_sites decided_program)
