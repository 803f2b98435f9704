-- What a whole file or a whole line makes of a desk.
use Rattle.std.specs.Prelude.{◌≡◌, ◌⊎◌, ℕ, ◌+◌, ◌^◌, ◌<◌, ◌≤◌, min, List, [], ◌∷◌, ◌++◌, take, length, codes, Option, Some, None, IfSome, IsSome, IsSomeAnd, option_map, Result, OnOk, OnErr}
use Rattle.std.specs.List.{flat_map}
use Rattle.std.specs.Borrow.{Bor}
use Rattle.sap_desk.specs.Desk.{Told, Use, closed, reads, writes, IsOpen, at_name, at_number, bytes_of, blamed, added, name_if_reading, read_on, rest_of}
use Rattle.sap_desk.specs.Cause.{counted}

-- If the desk reports its contents before the call, it reports them after it, and `R` holds of both.
abbrev pub Between : Option Told → Option Told → (Told → Told → Type 0) → Type 0
Between before after R = IfSome before (λ t. IsSomeAnd after (λ n. R t n))

-- Channels 1 and 2, each channel that was open, and the room are as before.
pub record SameChannels (t n : Told) : Type 0 where
  pub room : n.room ≡ t.room
  pub output_use : n.uses 1 ≡ t.uses 1
  pub output : n.written 1 ≡ t.written 1
  pub lines_use : n.uses 2 ≡ t.uses 2
  pub lines : n.written 2 ≡ t.written 2
  pub open_use : (k : ℕ) → IsOpen (t.uses k) → n.uses k ≡ t.uses k
  pub open_written : (k : ℕ) → IsOpen (t.uses k) → n.written k ≡ t.written k

-- The use reads or writes the file of this name.
abbrev pub IsFor : List ℕ → Use → Type 0
IsFor name (reads owner asked position) = owner ≡ name
IsFor name (writes owner) = owner ≡ name
IsFor name _ = ⊥

-- A channel that wasn't open is open for the file of a name, and every other is as before.
pub record OneMore (name : List ℕ) (before after : ℕ → Use) : Type 0 where
  pub channel : ℕ
  pub above : 2 < channel
  pub fresh : before channel ≡ closed
  pub use_now : Use
  pub is_for : IsFor name use_now
  pub uses : after ≡ at_number channel use_now before

-- What is open after a failed call on the file of a name: what was open before, and the channel of that call where it
-- has one.
abbrev pub OpenAfterFault : (name : List ℕ) → (before after : ℕ → Use) → Type 0
OpenAfterFault name before after = (after ≡ before) ⊎ OneMore name before after

-- A channel that wasn't open writes the file of a name, and every other is as before.
pub record WritesOn (name : List ℕ) (before after : ℕ → Use) : Type 0 where
  pub channel : ℕ
  pub above : 2 < channel
  pub fresh : before channel ≡ closed
  pub uses : after ≡ at_number channel (writes name) before

-- A call failed at the file of a name, which is there: its channel is still open, since no further call is made.
abbrev pub LeftOpen : List ℕ → Told → Told → Type 0
LeftOpen name t n = IsSome (t.files name) → OneMore name t.uses n.uses

-- A call failed that reads the file of a name.
pub record FailedReading (name : List ℕ) (t n : Told) : Type 0 where
  pub files : n.files ≡ t.files
  pub blame : n.blame ≡ name
  pub channels : SameChannels t n
  pub uses : OpenAfterFault name t.uses n.uses

-- What is got of a text by reading until more than `limit` bytes were got, or its end: the whole text, or some part of
-- it, from its first byte on, that is longer than the limit.
pub data IsFront (limit : ℕ) (whole part : List ℕ) : Type 0 where
  all : part ≡ whole → IsFront limit whole part
  more : limit < length part → (rest : List ℕ) → part ++ rest ≡ whole → IsFront limit whole part

-- How far a text may be read, in pieces of at most 4096 bytes. The last piece was asked for at `asked`, after no more
-- bytes than the limit, if there is one, and ends at `position`, which may be before the text's end.
pub record IsReadTo (limit : Option ℕ) (bytes : List ℕ) (asked position : ℕ) : Type 0 where
  pub within : position ≤ length bytes
  pub from : asked ≤ position
  pub piece : position ≤ asked + 4096
  pub most : IfSome limit (λ most. asked ≤ most)

-- `count` bytes were read of what a channel had left, as in `IsReadTo`. Then the state changed by `then`, of the name
-- of the file that the channel reads.
pub record ReadTo (limit channel count : ℕ) (then : (name : List ℕ) → Told
    → Told) (before now : Option Told) : Type 0 where
  pub asked : ℕ
  pub read : IfSome before (λ t. IsReadTo (Some limit) (rest_of t channel) asked count)
  pub told : now ≡ option_map (λ t. then (name_if_reading (t.uses channel))
      (read_on channel (Some asked) count t)) before

-- A channel that wasn't open reads the file of a name, and is as far in it as `IsReadTo` allows. Every other channel is
-- as before.
pub record StandsWithin (limit : Option ℕ) (name : List ℕ) (t : Told) (before after : ℕ → Use) : Type 0 where
  pub channel : ℕ
  pub above : 2 < channel
  pub fresh : before channel ≡ closed
  pub asked : ℕ
  pub position : ℕ
  pub uses : after ≡ at_number channel (reads name asked position) before
  pub read : IsReadTo limit (bytes_of t name) asked position

-- What is open after a failed call on a file that is read: what was open before, and the call's channel, if it had one,
-- as in `StandsWithin`.
abbrev pub OpenWithin : (limit : Option ℕ) → (name : List ℕ) → Told → (before after : ℕ → Use) → Type 0
OpenWithin limit name t before after = (after ≡ before) ⊎ StandsWithin limit name t before after

-- What is open before and after a call is as in `OpenWithin`.
abbrev pub StoodWithin : (limit : Option ℕ) → List ℕ → Told → Told → Type 0
StoodWithin limit name t n = OpenWithin limit name t t.uses n.uses

-- There is a file of this name, and `part` is what is got of it by reading it up to the limit.
pub record IsFrontOf (limit : ℕ) (name part : List ℕ) (t : Told) : Type 0 where
  pub whole : List ℕ
  pub file : t.files name ≡ Some whole
  pub front : IsFront limit whole part

-- Why reading a whole file fails at a sure desk.
abbrev pub MissingOrLong : List ℕ → Told → Type 0
MissingOrLong name t = (t.files name ≡ None) ⊎ (2 ^ 32 ≤ length (bytes_of t name))

-- Why reading a file until more than `limit` bytes were got fails at a sure desk: at most 4096 bytes behind the limit
-- are asked for.
abbrev pub MissingOrFar : (limit : ℕ) → List ℕ → Told → Type 0
MissingOrFar limit name t = (t.files name ≡ None) ⊎ (2 ^ 32 ≤ min (limit + 4096) (length (bytes_of t name)))

-- The file of a name has these bytes, and no other file changed.
pub record Wrote (name bytes : List ℕ) (t n : Told) : Type 0 where
  pub files : n.files ≡ at_name name (Some bytes) t.files
  pub blame : n.blame ≡ t.blame
  pub channels : SameChannels t n
  pub uses : n.uses ≡ t.uses

-- The file of a name has a prefix of these bytes, and no other file changed.
pub record WrotePrefix (name bytes : List ℕ) (t n : Told) : Type 0 where
  pub count : ℕ
  pub within : count ≤ length bytes
  pub files : n.files ≡ at_name name (Some (take count bytes)) t.files

-- A call failed that writes the file of a name. It could not be made, and all is as before; or it has a prefix of the
-- bytes, and its channel is still open.
pub record FailedWriting (name bytes : List ℕ) (t n : Told) : Type 0 where
  pub left : ((n.files ≡ t.files) × (n.uses ≡ t.uses)) ⊎ (WrotePrefix name bytes t n × WritesOn name t.uses n.uses)
  pub blame : n.blame ≡ name
  pub channels : SameChannels t n

-- Why writing a file fails at a sure desk: it is longer than the room, which it fills.
pub record FillsFile (name bytes : List ℕ) (t n : Told) : Type 0 where
  pub beyond : t.room < length bytes
  pub full : n.files ≡ at_name name (Some (take t.room bytes)) t.files

-- A count after a call that counts there where it fails.
pub record CountsFailed {T E : Type 0} (before now : ℕ) (result : Result T E) : Type 0 where
  pub ok : OnOk result (now ≡ before)
  pub failed : OnErr result (now ≡ counted before)
  pub later : before ≤ now

-- Channel 1 got a prefix of the bytes, and is blamed.
pub record CutOutput (bytes : List ℕ) (before after : Option Told) : Type 0 where
  pub count : ℕ
  pub within : count ≤ length bytes
  pub told : after ≡ option_map (λ t. blamed (codes "output") (added 1 (take count bytes) t)) before

-- Channel 2 got a prefix of the line.
pub record CutLine (line : List ℕ) (before after : Option Told) : Type 0 where
  pub count : ℕ
  pub within : count ≤ length line
  pub told : after ≡ option_map (added 2 (take count line)) before

-- Channel 2 gained a line; or a call on it failed, one alone, and it gained a part of the line, from its first byte on.
abbrev pub Gained : (line : List ℕ) → (lost lost_now : ℕ) → Told → Told → Type 0
Gained line lost lost_now t n =
    ((lost_now ≡ lost) × (n.written 2 ≡ t.written 2 ++ line))
    ⊎ ((lost_now ≡ counted lost) × ((count : ℕ) × (count ≤ length line)
    × (n.written 2 ≡ t.written 2 ++ take count line)))

-- A count after a call in which at most one call on channel 2 fails.
abbrev pub LostAtMostOne : (lost lost_now : ℕ) → Type 0
LostAtMostOne lost lost_now = (lost_now ≡ lost) ⊎ (lost_now ≡ counted lost)

-- The parts one after another.
abbrev pub joined : List (Bor (List ℕ)) → List ℕ
joined parts = flat_map (λ part. part.now) parts

-- The parts one after another, and then the end of a line.
abbrev pub line_of : List (Bor (List ℕ)) → List ℕ
line_of parts = joined parts ++ 10 ∷ []
