-- The memory that is kept for what the open channels may still write.
use Rattle.std.specs.Prelude.{◌≡◌, ℕ, ◌+◌, ◌-◌, ◌<◌, ◌≤◌, ◌++◌, List, true, is_some, Some, cond, length, set, slice_get, bytes_eq, string_bytes, sum_by, vec_capacity}
use Rattle.sap_desk.specs.Desk.{Use, closed, reads, writes, stream, placed, at_name, IsWriting}
use Rattle.sap_desk.specs.declared.stored.StoredFile.{StoredFile}
use Rattle.sap_desk.specs.declared.stored.Channel.{Channel}
use Rattle.sap_desk.specs.Memory.{use_at, uses_of, written_of, file_named}

-- How many bytes a channel of this use, on which so many were written, may still add to the file of a name.
abbrev pub claim_of : ℕ → List ℕ → Use → ℕ → ℕ
claim_of room name closed written = 0
claim_of room name (reads owner asked position) written = 0
claim_of room name (writes owner) written = cond (bytes_eq owner name) (room - written) 0
claim_of room name stream written = 0

-- The bytes that a channel may still add to a file.
abbrev pub claim : ℕ → List ℕ → Channel → ℕ
claim room name c = claim_of room name (use_at c) (length c.written.items)

-- How many bytes all the open channels together may still add to the file of a name.
abbrev pub claims : ℕ → List ℕ → List Channel → ℕ
claims room name channels = sum_by (claim room name) channels

-- For how many bytes each channel has memory.
abbrev pub rooms_of : List Channel → ℕ → ℕ
rooms_of = placed (λ c. vec_capacity c.written) 0

-- The files and channels that a store keeps: three channels are there from the start.
pub record Stands (room : ℕ) (files : List StoredFile) (channels : List Channel) : Type 0 where
  pub standard : 2 < length channels
  -- each file has memory for all that its open channels may still write
  pub file_room : (name : List ℕ) (f : StoredFile) → file_named files name ≡ Some f
      → length f.bytes.items + claims room name channels ≤ vec_capacity f.bytes
  -- a channel that writes a file is above 2, and the file is there
  pub above : (k : ℕ) (name : List ℕ) → uses_of channels k ≡ writes name → 2 < k
  pub there : (k : ℕ) (name : List ℕ) → uses_of channels k ≡ writes name → is_some (file_named files name) ≡ true
  -- a channel that is open for writing has memory for `room` bytes
  pub channel_room : (k : ℕ) → IsWriting (uses_of channels k) → room ≤ rooms_of channels k
  -- on no channel more than `room` bytes were written
  pub within_room : (k : ℕ) → length (written_of channels k) ≤ room

-- The element at a place, and no other, became another.
pub record Changed {X : Type 0} (k : ℕ) (R : X → X → Type 0) (old new : List X) : Type 0 where
  pub before : X
  pub after : X
  pub was : slice_get old k ≡ Some before
  pub now : new ≡ set old k after
  pub by : R before after

-- A file has a part more.
pub record LongerFile (part : List ℕ) (before after : StoredFile) : Type 0 where
  pub name : after.name ≡ before.name
  pub bytes : after.bytes.items ≡ before.bytes.items ++ part
  pub room : vec_capacity before.bytes ≤ vec_capacity after.bytes

-- A channel has a part more.
pub record LongerChannel (part : List ℕ) (before after : Channel) : Type 0 where
  pub state : after.state ≡ before.state
  pub name : after.name ≡ before.name
  pub written : after.written.items ≡ before.written.items ++ part
  pub given : after.given ≡ before.given
  pub room : vec_capacity before.written ≤ vec_capacity after.written

-- A file is put in place of one of its name.
abbrev pub Puts : StoredFile → List StoredFile → List StoredFile → Type 0
Puts f old new = (name : List ℕ) → file_named new name ≡ at_name (string_bytes f.name) (Some f) (file_named old) name
