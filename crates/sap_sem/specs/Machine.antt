-- What a machine shows: its levels, its program, the state between cycles, and which check sites were refused in the
-- last cycle.
use Rattle.std.specs.Prelude.{ℕ, zero, suc, ◌≤◌, List, [], ◌∷◌, Option, Some, None, get_or, nat_eq, if◌then◌else◌}
use Rattle.sap_lattice.specs.Levels.{Levels, order_of}
use Rattle.sap_meaning.specs.Program.{Program}
use Rattle.sap_meaning.specs.Store.{Store, Refusal}
use Rattle.sap_program.specs.Views.{program_in}
use Rattle.sap_sem.specs.Seen.{MachineSeen}
use Rattle.sap_store.specs.Kept.{store_of}

-- The levels of a machine's lattice.
abbrev pub levels_of : MachineSeen → Levels
levels_of m = m.lattice

-- Over the order of these levels.
abbrev pub program_of : MachineSeen → Program
program_of m = program_in (order_of m.lattice) m.program

-- The state of a machine between two cycles.
abbrev pub state_of : MachineSeen → Store
state_of m = store_of (program_of m).world m.store

-- How many check sites there are, which are numbered from 1.
abbrev pub site_count_of : MachineSeen → ℕ
site_count_of m = m.program.sites

-- This is the number of a check site of the machine's design.
abbrev pub IsSite : MachineSeen → ℕ → Type 0
IsSite m k = (1 ≤ k) × (k ≤ site_count_of m)

-- The level at which a site was refused in the last cycle, where it was.
abbrev pub refused_at : MachineSeen → ℕ → Option ℕ
refused_at m k = get_or m.refusals k None

-- The refusal of a site, if it was refused, in front of others.
abbrev pub refusal_before : (site : ℕ) → Option ℕ → List Refusal → List Refusal
refusal_before k None rs = rs
refusal_before k (Some t) rs = record { site = k; level = t } ∷ rs

-- Of the sites k, k + 1, .., as many as this, those that were refused.
abbrev pub refusals_from : (level_at : ℕ → Option ℕ) → (k count : ℕ) → List Refusal
refusals_from level_at k zero = []
refusals_from level_at k (suc n) = refusal_before k (level_at k) (refusals_from level_at (suc k) n)

-- What was refused in the last cycle: each refused site once, with its level, by rising numbers.
abbrev pub refusals_of : MachineSeen → List Refusal
refusals_of m = refusals_from (refused_at m) 1 (site_count_of m)

-- The level with which a site stands in a list, where it does.
abbrev pub refusal_of : List Refusal → ℕ → Option ℕ
refusal_of [] k = None
refusal_of (r ∷ rs) k = if nat_eq k r.site then Some r.level else refusal_of rs k
