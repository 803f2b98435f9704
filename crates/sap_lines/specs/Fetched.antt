-- Bytes that were read of a channel, and held.
use Rattle.std.specs.Prelude.{◌≡◌, ◌≢◌, ℕ, ◌+◌, ◌-◌, ◌<◌, ◌≤◌, ◌⊎◌, List, [], ◌++◌, ◌==◌, drop, take, length, slice_index_or, true, Option, Some, None, IfSome, option_map}
use Rattle.std.specs.List.{list_any}
use Rattle.sap_desk.specs.Desk.{Told, at_number, blame_at, name_if_reading, read_on, rest_of}
use Rattle.sap_desk.specs.Whole.{IsReadTo}

-- No LF stands from the place `ended` on; and where that is behind `start`, one stands right before it.
pub record EndsAt (start ended : ℕ) (bytes : List ℕ) : Type 0 where
  pub within : ended ≤ length bytes
  pub none : (k : ℕ) → ended ≤ k → k < length bytes → slice_index_or bytes k 0 ≢ 10
  pub last : start < ended → slice_index_or bytes (ended - 1) 0 ≡ 10

-- These bytes decide the next line: it ends among them, or is too long.
abbrev pub IsDecided : List ℕ → Type 0
IsDecided bytes = (65536 < length bytes) ⊎ (list_any (λ b. b == 10) bytes ≡ true)

-- These bytes decide the next line, or the channel has none left after them.
abbrev pub EndsOrDecided : (channel : ℕ) → List ℕ → Told → Type 0
EndsOrDecided channel bytes t = IsDecided bytes ⊎ (rest_of t channel ≡ [])

-- No more was read than needed: the bytes held before the last piece didn't decide the line, and that piece has all the
-- others. If no piece was asked for, nothing more is held.
abbrev pub HoldsLeast : (held now : List ℕ) → (asked : Option ℕ) → Type 0
HoldsLeast held now None = now ≡ held
HoldsLeast held now (Some few) = (length held + few ≤ length now)
    × (length now ≤ length held + few + 4096) × (¬ IsDecided (take (length held + few) now))

-- No more was read of a channel than needed: the pending bytes and those read before the last piece didn't decide the
-- line. If no piece was asked for, no byte was read.
abbrev pub ReadsLeast : (channel : ℕ) → (pending : List ℕ) → (asked : Option ℕ) → (count : ℕ) → Told → Type 0
ReadsLeast channel pending None count t = count ≡ 0
ReadsLeast channel pending (Some few) count t = IsReadTo None (rest_of t channel) few count
    × (¬ IsDecided (pending ++ take few (rest_of t channel)))

-- `count` bytes more were read of a channel and are held after those held before, and nothing else changed.
pub record More (channel : ℕ) (held now : List ℕ) (told_was told_now : Option Told)
    (given_was given_now : ℕ → ℕ) : Type 0 where
  pub asked : Option ℕ
  pub least : HoldsLeast held now asked
  pub count : ℕ
  pub size : length now ≡ length held + count
  pub told : told_now ≡ option_map (read_on channel asked count) told_was
  pub bytes : IfSome told_was (λ t. now ++ drop count (rest_of t channel) ≡ held ++ rest_of t channel)
  pub given : given_now ≡ at_number channel (given_was channel + count) given_was

-- A read of a channel failed: its file is blamed.
abbrev pub read_failed : (channel : ℕ) → Told → Told
read_failed channel t = blame_at channel (name_if_reading (t.uses channel)) t

-- Bytes were read, and then a read failed, which was asked for behind them all.
pub record MoreAndFailed (channel : ℕ) (held now : List ℕ) (told_was told_now : Option Told)
    (given_was given_now : ℕ → ℕ) : Type 0 where
  pub count : ℕ
  pub size : length now ≡ length held + count
  pub told : told_now ≡ option_map (λ t. read_failed channel (read_on channel (Some count) count t)) told_was
  pub bytes : IfSome told_was (λ t. now ++ drop count (rest_of t channel) ≡ held ++ rest_of t channel)
  pub given : given_now ≡ at_number channel (given_was channel + count) given_was
