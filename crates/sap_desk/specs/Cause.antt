-- What a read gives, when a call fails, and what it counts.
use Rattle.std.specs.Prelude.{◌≡◌, ◌≢◌, ℕ, ◌+◌, ◌-◌, ◌^◌, ◌<◌, ◌≤◌, ◌⊎◌, min, List, [], take, length, Option, Result, OnOk, OnErr, IfSome, option_map, IsErrOf}
use Rattle.sap_desk.specs.Desk.{Told, rest_of, IsReading, IsWriting, blame_at, added, name_if_writing}
use Rattle.sap_desk.specs.declared.error.DeskError.{DeskError}
use Rattle.sap_desk.specs.declared.error.DeskError.TheVariants.{Failed, Memory}

-- A count after one more failed call: it stands still at its last value.
abbrev pub counted : ℕ → ℕ
counted count = min (count + 1) (2 ^ 64 - 1)

-- A read gave the next `count` bytes of the channel, at the front of the buffer. If it gave none and the buffer isn't
-- empty, no bytes are left.
pub record Gave (t : Told) (channel count : ℕ) (before after : List ℕ) : Type 0 where
  pub reading : IsReading (t.uses channel)
  pub piece : take count after ≡ take count (rest_of t channel)
  pub fits : count ≤ length (rest_of t channel)
  pub end : count ≡ 0 → (length before ≡ 0) ⊎ (rest_of t channel ≡ [])

-- A failed write took a part of its piece, and nothing where the channel isn't open for it.
pub record Took (channel : ℕ) (piece : List ℕ) (before after : Option Told) : Type 0 where
  pub count : ℕ
  pub within : count ≤ length piece
  pub told : after ≡ option_map (λ t. blame_at channel (name_if_writing (t.uses channel))
      (added channel (take count piece) t)) before
  pub closed_takes_none : IfSome before (λ t. (¬ IsWriting (t.uses channel)) → count ≡ 0)

-- Both counts after a call on a channel: a failed call counts once, on channel 2 as lost and else as a fault.
pub record CountsAt {T E : Type 0} (channel faults faults_now lost lost_now : ℕ) (result : Result T E) : Type 0 where
  pub ok : OnOk result ((faults_now ≡ faults) × (lost_now ≡ lost))
  pub file : OnErr result (channel ≢ 2 → (faults_now ≡ counted faults) × (lost_now ≡ lost))
  pub line : OnErr result (channel ≡ 2 → (lost_now ≡ counted lost) × (faults_now ≡ faults))
  pub faults_later : faults ≤ faults_now
  pub lost_later : lost ≤ lost_now

-- Both counts after a call that opens a channel: a failed call counts once, as a fault.
pub record CountsOpen {T : Type 0} (faults faults_now lost lost_now : ℕ) (result : Result T DeskError) : Type 0 where
  pub ok : OnOk result (faults_now ≡ faults)
  pub memory : IsErrOf result Memory → faults_now ≡ faults
  pub failed : IsErrOf result Failed → faults_now ≡ counted faults
  pub faults_later : faults ≤ faults_now
  pub lost_stands : lost_now ≡ lost

-- Why a read fails at a sure desk: the channel isn't open for it, or its piece brings `given` to 2^32.
pub record FailsToRead (channel given size : ℕ) (t : Told) : Type 0 where
  pub why : (¬ IsReading (t.uses channel)) ⊎ (2 ^ 32 ≤ given + min size (length (rest_of t channel)))

-- A piece is longer than the room that its channel has left, and what fits fills the room.
pub record FillsRoom (channel : ℕ) (piece : List ℕ) (t : Told) (after : Option Told) : Type 0 where
  pub beyond : t.room < length (t.written channel) + length piece
  pub full : IfSome after (λ n. length (n.written channel) ≡ t.room)

-- Why a write fails at a sure desk: the channel isn't open for it, or the piece goes beyond the room.
pub record FailsToWrite (channel : ℕ) (piece : List ℕ) (t : Told) (after : Option Told) : Type 0 where
  pub why : (¬ IsWriting (t.uses channel)) ⊎ FillsRoom channel piece t after
