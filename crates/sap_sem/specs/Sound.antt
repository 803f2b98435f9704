-- What a machine keeps.
use Rattle.std.specs.Prelude.{◌≡◌, ◌+◌, List, Option, ℕ, length}
use Rattle.sap_lattice.specs.Levels.{Levels, order_of}
use Rattle.sap_meaning.specs.Program as meaning
use Rattle.sap_meaning.specs.Fine.{FineProgram, ExactProgram}
use Rattle.sap_meaning.specs.Sites.{program_sites, numbers_from}
use Rattle.sap_meaning.specs.State.{Resting}
use Rattle.sap_program.specs.declared.program.Program.{Program}
use Rattle.sap_program.specs.Views.{program_in}
use Rattle.sap_sem.specs.Seen.{MachineSeen}
use Rattle.sap_store.specs.declared.store.Store.{Store}
use Rattle.sap_store.specs.Able.{AbleGroup}
use Rattle.sap_store.specs.Kept.{Ready, store_of}

-- The program of the labelled meaning that a machine's program is.
abbrev pub meant : Levels → Program → meaning.Program
meant ls p = program_in (order_of ls) p

-- The program can run, has what the laws of the labelled meaning ask for, and lists exactly what hangs; its check sites
-- are numbered from 1.
pub record IsSound (ls : Levels) (p : Program) : Type 0 where
  pub able : AbleGroup (meant ls p).world (meant ls p).states
  pub fine : FineProgram (meant ls p)
  pub exact : ExactProgram (meant ls p)
  pub sites : program_sites (meant ls p) ≡ numbers_from 1 p.sites

-- The state is one between cycles.
pub record IsReady (ls : Levels) (p : Program) (s : Store) : Type 0 where
  pub kept : Ready (meant ls p).world s
  pub rests : Resting (meant ls p).world (store_of (meant ls p).world s)

-- A mark for each site, and one for 0.
abbrev pub AreMarks : Program → List (Option ℕ) → Type 0
AreMarks p marks = length marks ≡ p.sites + 1

-- Between two calls, every machine has a program that it can run, a state between cycles, and its marks.
pub record IsMachine (m : MachineSeen) : Type 0 where
  pub sound : IsSound m.lattice m.program
  pub ready : IsReady m.lattice m.program m.store
  pub marks : AreMarks m.program m.refusals
