-- Two machines side by side.
use Rattle.std.specs.Prelude.{◌≡◌, ℕ, List}
use Rattle.sap_meaning.specs.Agree.{StatesAgree}
use Rattle.sap_meaning.specs.Cycle.{Tagged, cycle}
use Rattle.sap_sem.specs.Machine.{levels_of, program_of, state_of, site_count_of, refusals_of, refused_at, refusal_of, IsSite}
use Rattle.sap_sem.specs.Seen.{MachineSeen}

-- The states of two machines of one program agree at a level.
abbrev pub MachinesAgree : ℕ → MachineSeen → MachineSeen → Type 0
MachinesAgree l m n = StatesAgree (program_of m) l (state_of m) (state_of n)

-- What a machine is after a step on these inputs: the labelled cycle's state and refusals, and all else as it was.
pub record Steps (before : MachineSeen) (inputs : List Tagged) (after : MachineSeen) : Type 0 where
  pub levels : levels_of after ≡ levels_of before
  pub program : program_of after ≡ program_of before
  pub sites : site_count_of after ≡ site_count_of before
  pub state : state_of after ≡ (cycle (program_of before) inputs (state_of before)).store
  pub refusals : refusals_of after ≡ (cycle (program_of before) inputs (state_of before)).refused
  pub refused : (k : ℕ) → IsSite before k → refused_at after k
      ≡ refusal_of (cycle (program_of before) inputs (state_of before)).refused k
