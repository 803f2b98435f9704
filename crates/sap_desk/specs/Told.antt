-- What a desk in memory shows: what every desk tells, and which of its calls are to fail.
use Rattle.std.specs.Prelude.{◌≡◌, ℕ, ◌<◌, List, [], take, All, Contains}
use Rattle.sap_desk.specs.Desk.{Told, added, blame_at, name_if_writing}
use Rattle.sap_desk.specs.Cause.{counted}
use Rattle.sap_desk.specs.Memory.{blame_of}
use Rattle.sap_desk.specs.MemoryCalls.{made, fitting}
use Rattle.sap_desk.specs.Store.{told_in, given_in}
use Rattle.sap_desk.specs.declared.memory.MemoryDesk.{MemoryDesk}

-- What a desk in memory shows: what it tells, its counts and the calls that are to fail.
pub record Shown : Type 0 where
  pub told : Told
  -- how many bytes the reads of each channel gave since it was opened
  pub given : ℕ → ℕ
  -- how many calls failed, those on channel 2 apart
  pub faults : ℕ
  pub lost : ℕ
  -- how many calls were made, and the numbers of those that are to fail, counted from 1
  pub calls : ℕ
  pub failing : List ℕ

-- What a desk in memory shows.
abbrev pub shown : MemoryDesk → Shown
shown m = record {
  told = told_in m.store (blame_of m.store.channels.items m.failures.blame);
  given = given_in m.store;
  faults = m.failures.faults;
  lost = m.failures.lost;
  calls = m.schedule.calls;
  failing = m.schedule.failing.items;
}

-- A desk as it is made: nothing was given, nothing failed, and nothing is to fail.
abbrev pub fresh : ℕ → Shown
fresh room = record { told = made room; given = λ k. 0; faults = 0; lost = 0; calls = 0; failing = [] }

-- The next call is to fail by its number: the count of calls stands still at its last value.
abbrev pub IsDue : Shown → Type 0
IsDue s = Contains s.failing (counted s.calls)

-- No call is still to fail by its number.
abbrev pub IsSure : Shown → Type 0
IsSure s = All (λ n. n < counted s.calls) s.failing

-- A call was counted, and the numbers of the calls that are to fail stand.
pub record Called (old new : Shown) : Type 0 where
  pub calls : new.calls ≡ counted old.calls
  pub failing : new.failing ≡ old.failing

-- A write on a channel failed, and took what fits of so many of its bytes.
abbrev pub TookOf : ℕ → ℕ → List ℕ → Told → Told → Type 0
TookOf wanted channel piece t n = n ≡ blame_at channel (name_if_writing (t.uses channel))
    (added channel (take (fitting t channel wanted) piece) t)
