-- What is written of bytes that wait.
use Rattle.std.specs.Prelude.{◌≡◌, ◌⊎◌, ◌≤◌, ℕ, List, [], ◌++◌, length, take, Option, option_map}
use Rattle.sap_desk.specs.Desk.{Told, added, blame_at, name_if_writing}

-- This was written on a channel; where it is nothing, there may have been no call.
abbrev pub Writes : (channel : ℕ) → (part : List ℕ) → (before after : Option Told) → Type 0
Writes channel part before after = ((part ≡ []) × (after ≡ before)) ⊎ (after ≡ option_map (added channel part) before)

-- Of these bytes a part was written, from the first on, and the others wait.
pub record PartWritten (channel : ℕ) (bytes waiting : List ℕ) (before after : Option Told) : Type 0 where
  pub part : List ℕ
  pub whole : part ++ waiting ≡ bytes
  pub told : Writes channel part before after

-- A write failed: the channel got a part of these bytes, from the first on, and its file is blamed.
pub record CutOff (channel : ℕ) (bytes : List ℕ) (before after : Option Told) : Type 0 where
  pub count : ℕ
  pub within : count ≤ length bytes
  pub told : after ≡ option_map (λ t. blame_at channel (name_if_writing (t.uses channel))
      (added channel (take count bytes) t)) before
